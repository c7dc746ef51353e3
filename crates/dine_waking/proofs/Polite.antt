-- A neighbour that has asked and rung waits for one meal of a polite site at most.
use Rattle.std.proofs.Common.{◌≡◌, ◌⊎◌, ℕ, zero, suc, ◌+◌, ◌<◌, ◌≤◌, Bool, true, false, List, [], ◌∷◌, ◌++◌, length, slice_get, Some, refl, sym, ◌∙◌, ap, subst, inl, inr, arith, length-append, zero-add}
use Rattle.std.proofs.lemmas.Bool.{cases_eq, false≢true}
use Rattle.dine_token.specs.Log.{is_dirty}
use Rattle.dine_graph.specs.Plan.{SeenPlan, IsPlan, site_count, edges_of}
use Rattle.dine_rules.specs.declared.letters.Letter.{Letter}
use Rattle.dine_rules.specs.declared.letters.Letter.TheVariants as letter
use Rattle.dine_rules.specs.Holdings.{fork_at, hand_at}
use Rattle.dine_rules.specs.Letters.{requests_in}
use Rattle.dine_rules.specs.Links.{queue_to}
use Rattle.dine_rules.specs.Local.{LocalState, edge_at, neighbour_at, traffic_at}
use Rattle.dine_rules.specs.Steps.{Begin, after, may}
use Rattle.dine_rules.specs.Streams.{KeepsStreamsAt}
use Rattle.dine_rules.specs.World.{place_of, put_to, state_of}
use Rattle.dine_rules.proofs.shared.counting.Persistence.{IsLonger, longer_get}
use Rattle.dine_rules.proofs.shared.lists.Counting.{requests_in-append}
use Rattle.dine_rules.proofs.shared.links.Links.{link_holds}
use Rattle.dine_rules.proofs.shared.precedence.PreferenceSteps.{IsEaten, begin_eats}
use Rattle.dine_rules.proofs.shared.links.WorldStreams.{WorldKeeps, reached_kept}
use Rattle.dine_waking.specs.Manners.{HasRungForAll, HoldsDirtyFork, IsAsked, IsInManner, LeadsInManner, MannerStep, forks_given, has_checked, checked_after, meals_so_far}
use Rattle.dine_waking.specs.Runs.{LeadsBySteps, Run, RunStep, ThreadStep, rings_for, rings_left, thread_of}
use Rattle.dine_waking.proofs.Accounts.{account}
use Rattle.dine_waking.proofs.AskedPlaces.{asked_holds, begins_clean, hand_stays}
use Rattle.dine_waking.proofs.Bells.{RunKeeps}
use Rattle.dine_waking.proofs.Bounded.{step_keeps}
use Rattle.dine_waking.proofs.Heard.{AtPlace, Begun, Stays, Took, other_step, own_check_used, own_step, yet_after, yet_to_check}
use Rattle.dine_waking.proofs.PutOff.{dirty_puts_off_none}
use Rattle.dine_waking.proofs.SiteMoves.{longer_forks, moves_begin, site_moves, step_put, step_taken, steps_put}

-- steps in a manner are steps
pub manner_leads : (plan : SeenPlan) (is_polite checked checked_then : ℕ → Bool) (n : ℕ) (old new : Run) → LeadsInManner plan is_polite n checked old checked_then new → LeadsBySteps plan n old new
manner_leads plan is_polite checked checked_then zero old new same = same.1
manner_leads plan is_polite checked checked_then (suc n) old new w = (w.0, w.1.step, manner_leads plan is_polite (checked_after plan old w.1.step.site checked) checked_then n w.0 new w.2)

-- ---- where a Request lies

-- a Request among the letters
request_among : (letters : List Letter) → requests_in letters ≡ 1 → (j edge : ℕ) × (slice_get letters j ≡ Some (letter.Request edge)) × (j < length letters)
request_among [] one = absurd (omega arith)
request_among (letter.Request edge ∷ letters) one = (0, edge, refl, omega arith)
request_among (letter.Fork fork ∷ letters) one = let w = request_among letters one in (suc w.0, w.1, w.2, omega (arith, w.3))
request_among (letter.Done ∷ letters) one = let w = request_among letters one in (suc w.0, w.1, w.2, omega (arith, w.3))
request_among (letter.Close ∷ letters) one = let w = request_among letters one in (suc w.0, w.1, w.2, omega (arith, w.3))

behind : (front letters : List Letter) (j : ℕ) → slice_get (front ++ letters) (length front + j) ≡ slice_get letters j
behind [] letters j = ap (slice_get letters) (zero-add j)
behind (l ∷ front) letters j =
    let next : length (l ∷ front) + j ≡ suc (length front + j) = omega arith in
    ap (slice_get (l ∷ (front ++ letters))) next ∙ behind front letters j

module _ (plan : SeenPlan) (is_plan : IsPlan plan) (s i : ℕ) (is_site : s < site_count plan) (within : i < length (edges_of plan s)) where
  abbrev pub state : Run → LocalState
  state run = state_of run.world s

  kept : (run : Run) → RunKeeps plan run → WorldKeeps plan run.world
  kept run keeps = reached_kept plan keeps.events run.world is_plan keeps.reached

  in_traffic : (run : Run) → RunKeeps plan run → i < length (state run).traffic
  in_traffic run keeps = omega (arith, ((kept run keeps).keeps s is_site).every_place)

  place_keeps : (run : Run) → RunKeeps plan run → KeepsStreamsAt plan s (state run) i
  place_keeps run keeps = ((kept run keeps).keeps s is_site).places i (in_traffic run keeps)

  -- a meal begins with the fork, and leaves it dirty
  eats : (run : Run) → RunKeeps plan run → may plan s (state run) Begin ≡ true → IsEaten plan s i (after plan s (state run) Begin)
  eats run keeps = begin_eats plan s i (state run) ((kept run keeps).keeps s is_site) (in_traffic run keeps)

  -- the site took the Request, and has not given the fork
  abbrev pub HasTaken : Run → Type 0
  HasTaken run = forks_given run s i < requests_in (traffic_at (state run) i).taken

  -- the fork in hand is dirty
  abbrev pub IsDirty : Run → Type 0
  IsDirty run = is_dirty (hand_at s (state run) i) ≡ true

  -- ---- one step, and steps behind it in which no fork is given

  module _ (old next new : Run) (m x : ℕ) (one : ThreadStep plan x old next) (more : LeadsBySteps plan m next new) (given : forks_given new s i ≡ forks_given old s i) where
    pub given_first : forks_given next s i ≡ forks_given old s i
    given_first = omega (
      arith,
      longer_forks (traffic_at (state old) i).put (traffic_at (state next) i).put (step_put plan x old next one s i),
      longer_forks (traffic_at (state next) i).put (traffic_at (state new) i).put (steps_put plan m next new more s i),
    )

    pub given_then : forks_given new s i ≡ forks_given next s i
    given_then = given ∙ sym given_first

    taken_longer : IsLonger (traffic_at (state old) i).taken (traffic_at (state next) i).taken
    taken_longer = step_taken plan x old next one s i

    still_taken : HasTaken old → HasTaken next
    still_taken taken = omega (arith, given_first, ap requests_in taken_longer.is, requests_in-append (traffic_at (state old) i).taken taken_longer.more)

    pub still_dirty : RunKeeps plan old → RunKeeps plan next → fork_at plan s (state old) i ≡ 1 → IsDirty old → meals_so_far next s ≡ meals_so_far old s → HoldsDirtyFork plan next s i
    still_dirty keeps keeps_next one_fork dirty ate =
        let w = hand_stays plan s i (state old) (state next) (place_keeps old keeps) (place_keeps next keeps_next) taken_longer given_first one_fork ate in
        (w.0, ap is_dirty w.1 ∙ dirty)

  -- ---- the site has taken the Request

  pub none_begins : (m : ℕ) (old new : Run) → RunKeeps plan old → HasTaken old → IsDirty old → LeadsBySteps plan m old new → forks_given new s i ≡ forks_given old s i → meals_so_far new s ≡ meals_so_far old s
  none_begins zero old new keeps taken dirty same given = ap (λ (run : Run). meals_so_far run s) (sym same)
  none_begins (suc m) old new keeps taken dirty w given =
      let one : ThreadStep plan w.1.site old w.0 = w.1.step in
      let keeps_next : RunKeeps plan w.0 = step_keeps plan is_plan old w.0 keeps w.1.site w.1.is_site one in
      let holds = asked_holds plan s i (state old) (place_keeps old keeps) taken in
      elim (moves_begin plan s (state old) (state w.0) (site_moves plan w.1.site old w.0 one s)) [
        | inl begins ↦ absurd (begins_clean plan s i (state old) (in_traffic old keeps) holds.1 begins.0 dirty)
        | inr none ↦ none_begins m w.0 new keeps_next (still_taken old w.0 new m w.1.site one w.2 given taken) (still_dirty old w.0 new m w.1.site one w.2 given keeps keeps_next holds.0 dirty none).1 w.2
            (given_then old w.0 new m w.1.site one w.2 given) ∙ none
      ]

  pub one_begins : (m : ℕ) (old new : Run) → RunKeeps plan old → HasTaken old → LeadsBySteps plan m old new → forks_given new s i ≡ forks_given old s i → meals_so_far new s ≤ meals_so_far old s + 1
  one_begins zero old new keeps taken same given = omega (arith, ap (λ (run : Run). meals_so_far run s) same)
  one_begins (suc m) old new keeps taken w given =
      let one : ThreadStep plan w.1.site old w.0 = w.1.step in
      let keeps_next : RunKeeps plan w.0 = step_keeps plan is_plan old w.0 keeps w.1.site w.1.is_site one in
      let taken_next : HasTaken w.0 = still_taken old w.0 new m w.1.site one w.2 given taken in
      let given_next : forks_given new s i ≡ forks_given w.0 s i = given_then old w.0 new m w.1.site one w.2 given in
      elim (moves_begin plan s (state old) (state w.0) (site_moves plan w.1.site old w.0 one s)) [
        | inl begins ↦
            let dirty : IsDirty w.0 = ap (λ (x : LocalState). is_dirty (hand_at s x i)) begins.1 ∙ (eats old keeps begins.0).dirty in
            omega (arith, ap (λ (x : LocalState). x.ate) begins.1, none_begins m w.0 new keeps_next taken_next dirty w.2 given_next)
        | inr none ↦ omega (arith, one_begins m w.0 new keeps_next taken_next w.2 given_next)
      ]

  -- ---- the Request lies in the link, and was rung for

  -- letter k of the link is a Request, the site has not taken it, and has a ring left for it
  pub record Lies (run : Run) (k edge : ℕ) : Type 0 where
    pub request : slice_get (put_to plan run.world s i) k ≡ Some (letter.Request edge)
    pub untaken : length (traffic_at (state run) i).taken ≤ k
    pub ringing : k < length (traffic_at (state run) i).taken + rings_for i (rings_left (thread_of run s))

  pub asked_lies : (run : Run) → RunKeeps plan run → IsAsked plan run s i → HasRungForAll plan run s i → (k edge : ℕ) × Lies run k edge
  asked_lies run keeps asked rung =
      let taken : List Letter = (traffic_at (state run) i).taken in
      let w = request_among (queue_to plan run.world s i) asked in (
        length taken + w.0,
        w.1,
        record {
          request = ap (λ (letters : List Letter). slice_get letters (length taken + w.0)) (link_holds plan is_plan run.world (kept run keeps) s i is_site within) ∙ behind taken (queue_to plan run.world s i) w.0 ∙ w.2;
          untaken = omega arith;
          ringing = omega (arith, w.3, rung, account plan run s i (keeps.sites s is_site) within);
        },
      )

  -- a Begin of the site, in its manner
  record BeginsHere (is_polite checked : ℕ → Bool) (old next : Run) (w : MannerStep plan is_polite checked old next) : Type 0 where
    here : s ≡ w.step.site
    begun : Begun plan s i old next
    by_check : is_polite s ≡ true → has_checked plan old checked s ≡ true

  -- the next step of a run, where the site has a ring left
  at_place : (is_polite checked : ℕ → Bool) (old next : Run) → RunKeeps plan old → (w : MannerStep plan is_polite checked old next) → 0 < rings_for i (rings_left (thread_of old s)) → AtPlace plan s i old next ⊎ BeginsHere is_polite checked old next w
  at_place is_polite checked old next keeps w ringing = elim (cases_eq s w.step.site) [
    | inr other ↦ inl (other_step plan is_plan s i is_site within old next keeps w.step.site other w.step.step)
    | inl same ↦
        let own : (one : ThreadStep plan s old next) × IsInManner plan s checked old next one (is_polite s) = subst (λ (x : ℕ). (one : ThreadStep plan x old next) × IsInManner plan x checked old next one (is_polite x)) (sym same) (w.step.step, w.in_manner) in
        elim (own_step plan is_plan s i is_site within old next keeps own.0 ringing) [
          | inl at ↦ inl at
          | inr begins ↦ inr (record { here = same; begun = begins.0; by_check = λ polite. begins.1 checked (subst (IsInManner plan s checked old next own.0) polite own.1) })
        ]
  ]

  -- the Request lies there still, or it was taken; no meal has begun
  pub waits_on : (k edge : ℕ) (old next : Run) → RunKeeps plan old → Lies old k edge → (w : RunStep plan old next) → forks_given next s i ≡ forks_given old s i → AtPlace plan s i old next
      → (meals_so_far next s ≡ meals_so_far old s) × (Lies next k edge ⊎ HasTaken next)
  waits_on k edge old next keeps lies w given (Stays ate taken rings) = (
    ate,
    inl (record {
      request = longer_get (put_to plan old.world s i) (put_to plan next.world s i) k (letter.Request edge) (step_put plan w.site old next w.step (neighbour_at plan s i) (place_of plan (neighbour_at plan s i) (edge_at plan s i))) lies.request;
      untaken = omega (arith, lies.untaken, ap (λ (letters : List Letter). length letters) taken);
      ringing = omega (arith, lies.ringing, ap (λ (letters : List Letter). length letters) taken);
    }),
  )
  waits_on k edge old next keeps lies w given (Took ate l first taken rings) =
      let before : List Letter = (traffic_at (state old) i).taken in
      let longer : length (traffic_at (state next) i).taken ≡ length before + 1 = ap (λ (letters : List Letter). length letters) taken ∙ length-append before (l ∷ []) in (
        ate,
        elim (cases_eq (length before) k) [
          | inl here ↦
              let request : l ≡ letter.Request edge = (let e : Some l ≡ Some (letter.Request edge) = sym first ∙ ap (slice_get (put_to plan old.world s i)) here ∙ lies.request in cc) in
              let more : requests_in (traffic_at (state next) i).taken ≡ requests_in before + 1 = ap requests_in taken ∙ requests_in-append before (l ∷ []) ∙ ap (λ (x : Letter). requests_in before + requests_in (x ∷ [])) request in
              inr (omega (arith, given, more, (place_keeps old keeps).given_when_asked))
          | inr further ↦ inl (record {
            request = longer_get (put_to plan old.world s i) (put_to plan next.world s i) k (letter.Request edge) (step_put plan w.site old next w.step (neighbour_at plan s i) (place_of plan (neighbour_at plan s i) (edge_at plan s i))) lies.request;
            untaken = grind (arith, lies.untaken, longer, further);
            ringing = omega (arith, lies.ringing, longer);
          })
        ],
      )

  -- a Begin leaves the Request there, and the fork dirty
  pub begun_lies : (k edge x : ℕ) (old next : Run) → Lies old k edge → ThreadStep plan x old next → Begun plan s i old next → Lies next k edge
  begun_lies k edge x old next lies one begun =
      let same_taken : (traffic_at (state next) i).taken ≡ (traffic_at (state old) i).taken = ap (λ (x : LocalState). (traffic_at x i).taken) begun.changes in
      record {
        request = longer_get (put_to plan old.world s i) (put_to plan next.world s i) k (letter.Request edge) (step_put plan x old next one (neighbour_at plan s i) (place_of plan (neighbour_at plan s i) (edge_at plan s i))) lies.request;
        untaken = omega (arith, lies.untaken, ap (λ (letters : List Letter). length letters) same_taken);
        ringing = omega (arith, lies.ringing, begun.rings, ap (λ (letters : List Letter). length letters) same_taken);
      }

  pub begun_dirty : (old next : Run) → RunKeeps plan old → Begun plan s i old next → HoldsDirtyFork plan next s i
  begun_dirty old next keeps begun = (
    ap (λ (x : LocalState). fork_at plan s x i) begun.changes ∙ (eats old keeps begun.needs).held,
    ap (λ (x : LocalState). is_dirty (hand_at s x i)) begun.changes ∙ (eats old keeps begun.needs).dirty,
  )

  module _ (is_polite : ℕ → Bool) (polite : is_polite s ≡ true) (k edge : ℕ) where
    -- where the site has yet to check, it begins no meal
    none_waited : (m : ℕ) (checked checked_then : ℕ → Bool) (old new : Run) → RunKeeps plan old → Lies old k edge → HoldsDirtyFork plan old s i → checked s ≡ false → LeadsInManner plan is_polite m checked old checked_then new → forks_given new s i ≡ forks_given old s i → meals_so_far new s ≡ meals_so_far old s
    none_waited zero checked checked_then old new keeps lies dirty yet same given = ap (λ (run : Run). meals_so_far run s) (sym same.1)
    none_waited (suc m) checked checked_then old new keeps lies dirty yet w given =
        let does : RunStep plan old w.0 = w.1.step in
        let after_it : ℕ → Bool = checked_after plan old does.site checked in
        let more : LeadsBySteps plan m w.0 new = manner_leads plan is_polite after_it checked_then m w.0 new w.2 in
        let keeps_next : RunKeeps plan w.0 = step_keeps plan is_plan old w.0 keeps does.site does.is_site does.step in
        let given_next : forks_given new s i ≡ forks_given w.0 s i = given_then old w.0 new m does.site does.step more given in
        let ringing : 0 < rings_for i (rings_left (thread_of old s)) = omega (arith, lies.untaken, lies.ringing) in
        let still_yet : has_checked plan old checked s ≡ false = yet_to_check plan i old checked s yet (dirty_puts_off_none plan s (state old) i dirty.1) ringing in
        elim (at_place is_polite checked old w.0 keeps w.1 ringing) [
          | inr begins ↦ absurd (false≢true (sym still_yet ∙ begins.by_check polite))
          | inl at ↦
              let on = waits_on k edge old w.0 keeps lies does (given_first old w.0 new m does.site does.step more given) at in
              let dirty_next : HoldsDirtyFork plan w.0 s i = still_dirty old w.0 new m does.site does.step more given keeps keeps_next dirty.0 dirty.1 on.0 in
              elim on.1 [
                | inl lies_next ↦ none_waited m after_it checked_then w.0 new keeps_next lies_next dirty_next (yet_after plan old does.site checked s still_yet) w.2 given_next ∙ on.0
                | inr taken ↦ none_begins m w.0 new keeps_next taken dirty_next.1 more given_next ∙ on.0
              ]
        ]

    -- it begins one meal at most: its check is used then, and the fork is dirty
    one_waited : (m : ℕ) (checked checked_then : ℕ → Bool) (old new : Run) → RunKeeps plan old → Lies old k edge → LeadsInManner plan is_polite m checked old checked_then new → forks_given new s i ≡ forks_given old s i → meals_so_far new s ≤ meals_so_far old s + 1
    one_waited zero checked checked_then old new keeps lies same given = omega (arith, ap (λ (run : Run). meals_so_far run s) same.1)
    one_waited (suc m) checked checked_then old new keeps lies w given =
        let does : RunStep plan old w.0 = w.1.step in
        let after_it : ℕ → Bool = checked_after plan old does.site checked in
        let more : LeadsBySteps plan m w.0 new = manner_leads plan is_polite after_it checked_then m w.0 new w.2 in
        let keeps_next : RunKeeps plan w.0 = step_keeps plan is_plan old w.0 keeps does.site does.is_site does.step in
        let given_next : forks_given new s i ≡ forks_given w.0 s i = given_then old w.0 new m does.site does.step more given in
        elim (at_place is_polite checked old w.0 keeps w.1 (omega (arith, lies.untaken, lies.ringing))) [
          | inr begins ↦
              let none : meals_so_far new s ≡ meals_so_far w.0 s = none_waited m after_it checked_then w.0 new keeps_next (begun_lies k edge does.site old w.0 lies does.step begins.begun) (begun_dirty old w.0 keeps begins.begun)
              (own_check_used plan old s does.site checked begins.here) w.2 given_next in
              omega (arith, ap (λ (x : LocalState). x.ate) begins.begun.changes, none)
          | inl at ↦
              let on = waits_on k edge old w.0 keeps lies does (given_first old w.0 new m does.site does.step more given) at in
              elim on.1 [
                | inl lies_next ↦ omega (arith, on.0, one_waited m after_it checked_then w.0 new keeps_next lies_next w.2 given_next)
                | inr taken ↦ omega (arith, on.0, one_begins m w.0 new keeps_next taken more given_next)
              ]
        ]

  module _ (is_polite : ℕ → Bool) (polite : is_polite s ≡ true) where
    pub one_meal : (m : ℕ) (checked checked_then : ℕ → Bool) (old new : Run) → RunKeeps plan old → IsAsked plan old s i → HasRungForAll plan old s i → LeadsInManner plan is_polite m checked old checked_then new → forks_given new s i ≡ forks_given old s i
        → meals_so_far new s ≤ meals_so_far old s + 1
    one_meal m checked checked_then old new keeps asked rung = let w = asked_lies old keeps asked rung in one_waited is_polite polite w.0 w.1 m checked checked_then old new keeps w.2

    pub no_meal : (m : ℕ) (checked checked_then : ℕ → Bool) (old new : Run) → RunKeeps plan old → IsAsked plan old s i → HasRungForAll plan old s i → HoldsDirtyFork plan old s i → checked s ≡ false → LeadsInManner plan is_polite m checked old checked_then new
        → forks_given new s i ≡ forks_given old s i → meals_so_far new s ≡ meals_so_far old s
    no_meal m checked checked_then old new keeps asked rung = let w = asked_lies old keeps asked rung in none_waited is_polite polite w.0 w.1 m checked checked_then old new keeps w.2
