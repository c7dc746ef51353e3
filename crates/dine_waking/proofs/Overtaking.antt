-- A site that has asked a polite neighbour, and has rung: until it begins its next meal, the neighbour begins one at
-- most.
use Rattle.std.proofs.Common.{◌≡◌, ◌⊎◌, ℕ, zero, suc, ◌+◌, ◌<◌, ◌≤◌, Bool, true, false, cond, length, refl, sym, ◌∙◌, ap, subst, inl, inr, arith}
use Rattle.std.proofs.lemmas.Bool.{true≢false}
use Rattle.dine_token.specs.Log.{is_dirty}
use Rattle.dine_graph.specs.Plan.{SeenPlan, IsPlan, site_count, edges_of}
use Rattle.dine_rules.specs.Holdings.{fork_at, hand_at, token_at}
use Rattle.dine_rules.specs.Letters.{forks_in, requests_in}
use Rattle.dine_rules.specs.Links.{queue_to}
use Rattle.dine_rules.specs.Local.{LocalState, edge_at, neighbour_at, traffic_at}
use Rattle.dine_rules.specs.Steps.{Begin, Step, after}
use Rattle.dine_rules.specs.Streams.{KeepsStreamsAt, is_lower_at}
use Rattle.dine_rules.specs.World.{place_of, state_of}
use Rattle.dine_rules.proofs.shared.links.Joined.{Joined, few_requests, forks_coming, forks_going, one_fork, requests_coming}
use Rattle.dine_rules.proofs.shared.links.Links.{joined}
use Rattle.dine_rules.proofs.shared.links.WorldStreams.{reached_kept}
use Rattle.dine_rules.proofs.shared.precedence.PreferenceSteps.{IsStill, begin_eats, step_changes}
use Rattle.dine_waking.specs.Manners.{HasRungForAll, HoldsCleanFork, HoldsDirtyFork, IsAsked, LeadsInManner, MannerStep, WaitsForFork, forks_given, checked_after, meals_so_far}
use Rattle.dine_waking.specs.Runs.{LeadsBySteps, Run, RunStep, ThreadStep}
use Rattle.dine_waking.proofs.AskedPlaces.{asker_waits, waiter_put_more}
use Rattle.dine_waking.proofs.Bells.{RunKeeps}
use Rattle.dine_waking.proofs.Bounded.{step_keeps, steps_keep}
use Rattle.dine_waking.proofs.Polite.{HasTaken, manner_leads, no_meal, none_begins, one_begins, one_meal}
use Rattle.dine_waking.proofs.SiteMoves.{SiteMoves, longer_forks, moves_begin, site_moves, step_eats, step_put, steps_eat, steps_put}

pub same_or_more : (a b : ℕ) → a ≤ b → (b ≡ a) ⊎ (a < b)
same_or_more a b few = grind arith

fewer_or_not : (a b : ℕ) → (a < b) ⊎ (b ≤ a)
fewer_or_not a b = grind arith

-- ---- a site that waits for a fork

module _ (plan : SeenPlan) (s i : ℕ) where
  -- if the fork has come, it is clean
  abbrev pub IsUnused : LocalState → Type 0
  IsUnused state = fork_at plan s state i ≡ 1 → is_dirty (hand_at s state i) ≡ false

  still_unused : (old new : LocalState) → KeepsStreamsAt plan s old i → KeepsStreamsAt plan s new i → IsUnused old → IsStill plan s i old new → IsUnused new
  still_unused old new was is unused still one = still.dirt ∙ unused (omega (arith, was.forks_counted, is.forks_counted, still.puts, still.takes))

  -- it stays so, and the site does not give it, as long as no meal begins
  moves_unused : (old new : LocalState) → KeepsStreamsAt plan s old i → KeepsStreamsAt plan s new i → IsUnused old → SiteMoves plan s old new → new.ate ≡ old.ate
      → IsUnused new × (forks_in (traffic_at new i).put ≡ forks_in (traffic_at old i).put)
  moves_unused old new was is unused (inl same) ate = (subst IsUnused (sym same) unused, ap (λ (x : LocalState). forks_in (traffic_at x i).put) same)
  moves_unused old new was is unused (inr w) ate =
      let is_after : KeepsStreamsAt plan s (after plan s old w.0) i = subst (λ (x : LocalState). KeepsStreamsAt plan s x i) w.2 is in
      let no_meal : w.0 ≡ Begin → ⊥ = λ begins.
      let more : new.ate ≡ old.ate + 1 = ap (λ (x : LocalState). x.ate) w.2 ∙ ap (λ (step : Step). (after plan s old step).ate) begins in
      omega arith in
      let w_unused : IsUnused (after plan s old w.0) × (forks_in (traffic_at (after plan s old w.0) i).put ≡ forks_in (traffic_at old i).put) =
      elim (step_changes plan s i old w.0 no_meal w.1) [
        | inl still ↦ (still_unused old (after plan s old w.0) was is_after unused still, still.puts)
        | inr other ↦ elim other [
          | inl given ↦ absurd (true≢false (sym given.dirty ∙ unused given.held))
          | inr taken ↦ (λ one. taken.clean, taken.puts)
        ]
      ] in
      (subst IsUnused (sym w.2) w_unused.0, ap (λ (x : LocalState). forks_in (traffic_at x i).put) w.2 ∙ w_unused.1)

module _ (plan : SeenPlan) (is_plan : IsPlan plan) (s i : ℕ) (is_site : s < site_count plan) (within : i < length (edges_of plan s)) where
  abbrev there : ℕ
  there = neighbour_at plan s i

  abbrev place : ℕ
  place = place_of plan (neighbour_at plan s i) (edge_at plan s i)

  abbrev pub state : Run → LocalState
  state run = state_of run.world s

  abbrev pub far : Run → LocalState
  far run = state_of run.world there

  ends : (run : Run) → RunKeeps plan run → Joined plan s i there place (state run) (far run) (queue_to plan run.world s i) (queue_to plan run.world there place)
  ends run keeps = joined plan is_plan run.world (reached_kept plan keeps.events run.world is_plan keeps.reached) s i is_site within

  near_keeps : (run : Run) → RunKeeps plan run → KeepsStreamsAt plan s (state run) i
  near_keeps run keeps = (ends run keeps).here.places i (ends run keeps).within

  far_keeps : (run : Run) → RunKeeps plan run → KeepsStreamsAt plan there (far run) place
  far_keeps run keeps = (ends run keeps).there.places place (ends run keeps).within_there

  -- how many forks the neighbour gave at the place
  abbrev far_given : Run → ℕ
  far_given run = forks_in (traffic_at (far run) place).put

  -- the fork is gone: it is not here, and nowhere on its way here
  abbrev pub IsGone : Run → Type 0
  IsGone run = cond (is_lower_at plan s i) 1 0 + far_given run ≤ forks_given run s i

  -- a neighbour whose Request is in the link has neither
  pub asked_waits : (run : Run) → RunKeeps plan run → IsAsked plan run s i → (fork_at plan there (far run) place ≡ 0) × (token_at plan there (far run) place ≡ 0)
  asked_waits run keeps asked =
      let both = ends run keeps in
      asker_waits plan there place (far run) (far_keeps run keeps) (omega (
        arith,
        asked,
        (near_keeps run keeps).given_when_asked,
        requests_coming plan s i there place (state run) (far run) (queue_to plan run.world s i) (queue_to plan run.world there place) both,
        forks_going plan s i there place (state run) (far run) (queue_to plan run.world s i) (queue_to plan run.world there place) both,
      ))

  -- its Request is in the link, or the site has taken it, or the fork is gone
  pub where_request : (run : Run) → RunKeeps plan run → WaitsForFork plan run there place → IsAsked plan run s i ⊎ (HasTaken plan is_plan s i is_site within run ⊎ IsGone run)
  where_request run keeps waits =
      let both = ends run keeps in
      let asked : forks_in (traffic_at (far run) place).taken < requests_in (traffic_at (far run) place).put = waiter_put_more plan there place (far run) (far_keeps run keeps) waits.0 waits.1 in
      let requests = requests_coming plan s i there place (state run) (far run) (queue_to plan run.world s i) (queue_to plan run.world there place) both in
      let going = forks_going plan s i there place (state run) (far run) (queue_to plan run.world s i) (queue_to plan run.world there place) both in
      let coming = forks_coming plan s i there place (state run) (far run) (queue_to plan run.world s i) (queue_to plan run.world there place) both in
      let one = one_fork plan s i there place (state run) (far run) (queue_to plan run.world s i) (queue_to plan run.world there place) both in
      let few = few_requests plan s i there place (state run) (far run) (queue_to plan run.world s i) (queue_to plan run.world there place) both in
      elim (same_or_more 0 (requests_in (queue_to plan run.world s i)) (omega arith)) [
        | inr some ↦ inl (omega (arith, few))
        | inl none ↦ inr (elim (fewer_or_not (forks_given run s i) (requests_in (traffic_at (state run) i).taken)) [
          | inl taken ↦ inl taken
          | inr given ↦ inr (omega (arith, requests, going, coming, one, asked, (near_keeps run keeps).forks_counted))
        ])
      ]

  -- once one fork more is given, the fork is gone
  given_is_gone : (old new : Run) → RunKeeps plan old → far_given new ≡ far_given old → forks_given old s i < forks_given new s i → IsGone new
  given_is_gone old new keeps same more =
      let both = ends old keeps in
      omega (
        arith,
        (near_keeps old keeps).forks_counted,
        forks_coming plan s i there place (state old) (far old) (queue_to plan old.world s i) (queue_to plan old.world there place) both,
        one_fork plan s i there place (state old) (far old) (queue_to plan old.world s i) (queue_to plan old.world there place) both,
      )

  -- ---- steps in which the neighbour begins no meal

  module _ (old next : Run) (x : ℕ) (one : ThreadStep plan x old next) (keeps : RunKeeps plan old) (keeps_next : RunKeeps plan next) where
    far_waits : IsUnused plan there place (far old) → meals_so_far next there ≡ meals_so_far old there → IsUnused plan there place (far next) × (far_given next ≡ far_given old)
    far_waits unused ate = moves_unused plan there place (far old) (far next) (far_keeps old keeps) (far_keeps next keeps_next) unused (site_moves plan x old next one there) ate

    -- without the fork no meal begins
    gone_eats_not : IsGone old → meals_so_far next s ≡ meals_so_far old s
    gone_eats_not gone = elim (moves_begin plan s (state old) (state next) (site_moves plan x old next one s)) [
      | inl begins ↦
          let both = ends old keeps in
          let eats = begin_eats plan s i (state old) both.here both.within begins.0 in
          absurd (omega (
            arith,
            eats.held,
            (near_keeps old keeps).forks_counted,
            forks_coming plan s i there place (state old) (far old) (queue_to plan old.world s i) (queue_to plan old.world there place) both,
          ))
      | inr none ↦ none
    ]

  waits_on : (m : ℕ) (old new : Run) → RunKeeps plan old → IsUnused plan there place (far old) → LeadsBySteps plan m old new → meals_so_far new there ≡ meals_so_far old there → IsUnused plan there place (far new) × (far_given new ≡ far_given old)
  waits_on zero old new keeps unused same ate = (subst (λ (run : Run). IsUnused plan there place (far run)) same unused, ap far_given (sym same))
  waits_on (suc m) old new keeps unused w ate =
      let keeps_next : RunKeeps plan w.0 = step_keeps plan is_plan old w.0 keeps w.1.site w.1.is_site w.1.step in
      let ate_next : meals_so_far w.0 there ≡ meals_so_far old there = omega (arith, step_eats plan w.1.site old w.0 w.1.step there, steps_eat plan m w.0 new w.2 there) in
      let next = far_waits old w.0 w.1.site w.1.step keeps keeps_next unused ate_next in
      let last = waits_on m w.0 new keeps_next next.0 w.2 (ate ∙ sym ate_next) in
      (last.0, last.1 ∙ next.1)

  pub gone_for_long : (m : ℕ) (old new : Run) → RunKeeps plan old → IsUnused plan there place (far old) → IsGone old → LeadsBySteps plan m old new → meals_so_far new there ≡ meals_so_far old there → meals_so_far new s ≡ meals_so_far old s
  gone_for_long zero old new keeps unused gone same ate = ap (λ (run : Run). meals_so_far run s) (sym same)
  gone_for_long (suc m) old new keeps unused gone w ate =
      let keeps_next : RunKeeps plan w.0 = step_keeps plan is_plan old w.0 keeps w.1.site w.1.is_site w.1.step in
      let ate_next : meals_so_far w.0 there ≡ meals_so_far old there = omega (arith, step_eats plan w.1.site old w.0 w.1.step there, steps_eat plan m w.0 new w.2 there) in
      let next = far_waits old w.0 w.1.site w.1.step keeps keeps_next unused ate_next in
      let gone_next : IsGone w.0 = omega (arith, next.1, longer_forks (traffic_at (state old) i).put (traffic_at (state w.0) i).put (step_put plan w.1.site old w.0 w.1.step s i)) in
      gone_for_long m w.0 new keeps_next next.0 gone_next w.2 (ate ∙ sym ate_next) ∙ gone_eats_not old w.0 w.1.site w.1.step keeps keeps_next gone

  -- ---- the first step that gives the fork

  pub record FirstGive (is_polite checked checked_then : ℕ → Bool) (old new : Run) : Type 0 where
    pub before : ℕ
    pub checked_there : ℕ → Bool
    pub between : Run
    pub next : Run
    pub behind : ℕ
    pub leads : LeadsInManner plan is_polite before checked old checked_there between
    pub gives : MannerStep plan is_polite checked_there between next
    pub goes_on : LeadsInManner plan is_polite behind (checked_after plan between gives.step.site checked_there) next checked_then new
    pub not_given : forks_given between s i ≡ forks_given old s i
    pub given : forks_given old s i < forks_given next s i

  pub first_give : (is_polite checked checked_then : ℕ → Bool) (m : ℕ) (old new : Run) → LeadsInManner plan is_polite m checked old checked_then new → forks_given old s i < forks_given new s i → FirstGive is_polite checked checked_then old new
  first_give is_polite checked checked_then zero old new same more = absurd (omega (arith, ap (λ (run : Run). forks_given run s i) same.1))
  first_give is_polite checked checked_then (suc m) old new w more =
      let one : ThreadStep plan w.1.step.site old w.0 = w.1.step.step in
      let after_it : ℕ → Bool = checked_after plan old w.1.step.site checked in
      elim (same_or_more (forks_given old s i) (forks_given w.0 s i) (longer_forks (traffic_at (state old) i).put (traffic_at (state w.0) i).put (step_put plan w.1.step.site old w.0 one s i))) [
        | inl same ↦
            let rest : FirstGive is_polite after_it checked_then w.0 new = first_give is_polite after_it checked_then m w.0 new w.2 (omega arith) in
            record {
              before = suc rest.before;
              checked_there = rest.checked_there;
              between = rest.between;
              next = rest.next;
              behind = rest.behind;
              leads = (w.0, w.1, rest.leads);
              gives = rest.gives;
              goes_on = rest.goes_on;
              not_given = rest.not_given ∙ same;
              given = omega (arith, rest.given);
            }
        | inr given ↦ record {
          before = 0;
          checked_there = checked;
          between = old;
          next = w.0;
          behind = m;
          leads = (refl, refl);
          gives = w.1;
          goes_on = w.2;
          not_given = refl;
          given = given;
        }
      ]

  -- who gives a fork begins no meal
  gives_eats_not : (old next : Run) (x : ℕ) → ThreadStep plan x old next → forks_given old s i < forks_given next s i → meals_so_far next s ≡ meals_so_far old s
  gives_eats_not old next x one more = elim (moves_begin plan s (state old) (state next) (site_moves plan x old next one s)) [
    | inl begins ↦ absurd (let same : forks_given next s i ≡ forks_given old s i = ap (λ (state : LocalState). forks_in (traffic_at state i).put) begins.1 in omega arith)
    | inr none ↦ none
  ]

  -- ---- from the moment of the ring until the neighbour begins a meal

  -- from the give on no meal begins
  pub none_behind : (n m : ℕ) (old between next new : Run) → RunKeeps plan old → IsUnused plan there place (far old) → LeadsBySteps plan n old between → RunStep plan between next → LeadsBySteps plan m next new
      → forks_given between s i ≡ forks_given old s i → forks_given old s i < forks_given next s i → meals_so_far new there ≡ meals_so_far old there → meals_so_far new s ≡ meals_so_far between s
  none_behind n m old between next new keeps unused_first to_between gives from_next not_given given ate =
      let keeps_between : RunKeeps plan between = steps_keep plan is_plan n old between keeps to_between in
      let keeps_next : RunKeeps plan next = step_keeps plan is_plan between next keeps_between gives.site gives.is_site gives.step in
      let first = steps_eat plan n old between to_between there in
      let then = step_eats plan gives.site between next gives.step there in
      let last = steps_eat plan m next new from_next there in
      let ate_between : meals_so_far between there ≡ meals_so_far old there = omega (arith, first, then, last) in
      let ate_next : meals_so_far next there ≡ meals_so_far between there = omega (arith, first, then, last) in
      let unused = waits_on n old between keeps unused_first to_between ate_between in
      let unused_next = far_waits between next gives.site gives.step keeps_between keeps_next unused.0 ate_next in
      let gone : IsGone next = given_is_gone old next keeps (unused_next.1 ∙ unused.1) given in
      gone_for_long m next new keeps_next unused_next.0 gone from_next (omega (arith, ate_between, ate_next))
      ∙ gives_eats_not between next gives.site gives.step (omega (arith, not_given, given))

  -- steps in manners gave the fork or did not
  still_or_given : (is_polite checked checked_then : ℕ → Bool) (m : ℕ) (old new : Run) → LeadsInManner plan is_polite m checked old checked_then new → (forks_given new s i ≡ forks_given old s i) ⊎ FirstGive is_polite checked checked_then old new
  still_or_given is_polite checked checked_then m old new leads =
      elim (same_or_more (forks_given old s i) (forks_given new s i) (longer_forks (traffic_at (state old) i).put (traffic_at (state new) i).put (steps_put plan m old new (manner_leads plan is_polite checked checked_then m old new leads) s i))) [
        | inl same ↦ inl same
        | inr more ↦ inr (first_give is_polite checked checked_then m old new leads more)
      ]

  -- a bound on the meals up to the give is one up to the neighbour's meal
  bounded : (is_polite checked : ℕ → Bool) (old : Run) (keeps : RunKeeps plan old) (unused : IsUnused plan there place (far old)) (c : ℕ)
      → ((m : ℕ) (checked_mid : ℕ → Bool) (mid : Run) → LeadsInManner plan is_polite m checked old checked_mid mid → forks_given mid s i ≡ forks_given old s i → meals_so_far mid s ≤ meals_so_far old s + c)
      → (m : ℕ) (checked_then : ℕ → Bool) (new : Run) → LeadsInManner plan is_polite m checked old checked_then new → meals_so_far new there ≡ meals_so_far old there → meals_so_far new s ≤ meals_so_far old s + c
  bounded is_polite checked old keeps unused c bound m checked_then new leads ate = elim (still_or_given is_polite checked checked_then m old new leads) [
    | inl same ↦ bound m checked_then new leads same
    | inr give ↦
        let to_between : LeadsBySteps plan give.before old give.between = manner_leads plan is_polite checked give.checked_there give.before old give.between give.leads in
        let from_next : LeadsBySteps plan give.behind give.next new = manner_leads plan is_polite (checked_after plan give.between give.gives.step.site give.checked_there) checked_then give.behind give.next new give.goes_on in
        omega (
          arith,
          none_behind give.before give.behind old give.between give.next new keeps unused to_between give.gives.step from_next give.not_given give.given ate,
          bound give.before give.checked_there give.between give.leads give.not_given,
        )
  ]

  module _ (is_polite : ℕ → Bool) (polite : is_polite s ≡ true) (checked : ℕ → Bool) (old : Run) (keeps : RunKeeps plan old) (waits : WaitsForFork plan old there place) where
    unused_now : IsUnused plan there place (far old)
    unused_now one = absurd (omega (arith, waits.0))

    -- up to the give, where the fork is not gone
    to_give : IsAsked plan old s i ⊎ HasTaken plan is_plan s i is_site within old → (m : ℕ) (checked_mid : ℕ → Bool) (mid : Run) → LeadsInManner plan is_polite m checked old checked_mid mid → forks_given mid s i ≡ forks_given old s i → meals_so_far mid s ≤ meals_so_far old s + 1
    to_give (inl asked) m checked_mid mid leads same = one_meal plan is_plan s i is_site within is_polite polite m checked checked_mid old mid keeps asked waits.2 leads same
    to_give (inr taken) m checked_mid mid leads same = one_begins plan is_plan s i is_site within m old mid keeps taken (manner_leads plan is_polite checked checked_mid m old mid leads) same

    to_give_dirty : HoldsDirtyFork plan old s i → checked s ≡ false → IsAsked plan old s i ⊎ HasTaken plan is_plan s i is_site within old → (m : ℕ) (checked_mid : ℕ → Bool) (mid : Run) → LeadsInManner plan is_polite m checked old checked_mid mid
        → forks_given mid s i ≡ forks_given old s i → meals_so_far mid s ≤ meals_so_far old s + 0
    to_give_dirty dirty yet (inl asked) m checked_mid mid leads same = omega (arith, no_meal plan is_plan s i is_site within is_polite polite m checked checked_mid old mid keeps asked waits.2 dirty yet leads same)
    to_give_dirty dirty yet (inr taken) m checked_mid mid leads same = omega (arith, none_begins plan is_plan s i is_site within m old mid keeps taken dirty.1 (manner_leads plan is_polite checked checked_mid m old mid leads) same)

    pub overtakes_once : (m : ℕ) (checked_then : ℕ → Bool) (new : Run) → LeadsInManner plan is_polite m checked old checked_then new → meals_so_far new there ≡ meals_so_far old there → meals_so_far new s ≤ meals_so_far old s + 1
    overtakes_once m checked_then new leads ate = elim (where_request old keeps waits) [
      | inl asked ↦ bounded is_polite checked old keeps unused_now 1 (to_give (inl asked)) m checked_then new leads ate
      | inr other ↦ elim other [
        | inl taken ↦ bounded is_polite checked old keeps unused_now 1 (to_give (inr taken)) m checked_then new leads ate
        | inr gone ↦ omega (arith, gone_for_long m old new keeps unused_now gone (manner_leads plan is_polite checked checked_then m old new leads) ate)
      ]
    ]

    pub overtakes_never : HoldsDirtyFork plan old s i → checked s ≡ false → (m : ℕ) (checked_then : ℕ → Bool) (new : Run) → LeadsInManner plan is_polite m checked old checked_then new → meals_so_far new there ≡ meals_so_far old there → meals_so_far new s ≡ meals_so_far old s
    overtakes_never dirty yet m checked_then new leads ate =
        let to_new : LeadsBySteps plan m old new = manner_leads plan is_polite checked checked_then m old new leads in
        let more : meals_so_far old s ≤ meals_so_far new s = steps_eat plan m old new to_new s in
        elim (where_request old keeps waits) [
          | inl asked ↦ omega (arith, more, bounded is_polite checked old keeps unused_now 0 (to_give_dirty dirty yet (inl asked)) m checked_then new leads ate)
          | inr other ↦ elim other [
            | inl taken ↦ omega (arith, more, bounded is_polite checked old keeps unused_now 0 (to_give_dirty dirty yet (inr taken)) m checked_then new leads ate)
            | inr gone ↦ gone_for_long m old new keeps unused_now gone to_new ate
          ]
        ]

  -- ---- a run to its end gives the fork

  pub gives_soon : (is_polite : ℕ → Bool) → is_polite s ≡ true → (checked checked_then : ℕ → Bool) (old : Run) → RunKeeps plan old → IsAsked plan old s i → HasRungForAll plan old s i → (m : ℕ) (new : Run) → LeadsInManner plan is_polite m checked old checked_then new
      → forks_given old s i < forks_given new s i
      → (before : ℕ) × (checked_there : ℕ → Bool) × (between : Run) × (next : Run) × (behind : ℕ) × LeadsInManner plan is_polite before checked old checked_there between × (gives : MannerStep plan is_polite checked_there between next)
      × LeadsInManner plan is_polite behind (checked_after plan between gives.step.site checked_there) next checked_then new
      × (forks_given between s i ≡ forks_given old s i) × (forks_given old s i < forks_given next s i) × (meals_so_far between s ≤ meals_so_far old s + 1)
  gives_soon is_polite polite checked checked_then old keeps asked rung m new leads given =
      let give : FirstGive is_polite checked checked_then old new = first_give is_polite checked checked_then m old new leads given in (
        give.before,
        give.checked_there,
        give.between,
        give.next,
        give.behind,
        give.leads,
        give.gives,
        give.goes_on,
        give.not_given,
        give.given,
        one_meal plan is_plan s i is_site within is_polite polite give.before checked give.checked_there old give.between keeps asked rung give.leads give.not_given,
      )

  -- ---- the neighbour holds the fork clean

  pub clean_eats_first : (m : ℕ) (old new : Run) → RunKeeps plan old → HoldsCleanFork plan old there place → LeadsBySteps plan m old new → meals_so_far new there ≡ meals_so_far old there → meals_so_far new s ≡ meals_so_far old s
  clean_eats_first m old new keeps clean leads ate =
      let both = ends old keeps in
      let gone : IsGone old = omega (
        arith,
        clean.0,
        (near_keeps old keeps).forks_counted,
        forks_coming plan s i there place (state old) (far old) (queue_to plan old.world s i) (queue_to plan old.world there place) both,
        one_fork plan s i there place (state old) (far old) (queue_to plan old.world s i) (queue_to plan old.world there place) both,
      ) in
      gone_for_long m old new keeps (λ one. clean.1) gone leads ate
