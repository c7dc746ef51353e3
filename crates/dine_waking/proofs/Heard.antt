-- What a step does at a place of a site that has a ring left for it, and which sites have checked then.
use Rattle.std.proofs.Common.{◌≡◌, ◌≢◌, ◌⊎◌, ℕ, ◌+◌, ◌<◌, ◌≤◌, ◌==◌, ◌&&◌, ◌||◌, Bool, true, false, cond, if◌then◌else◌, List, [], ◌∷◌, ◌++◌, length, get_or, slice_set, Option, Some, refl, sym, ◌∙◌, ap, subst, inl, inr, arith}
use Rattle.std.proofs.lemmas.Bool.{cases_eq, cond-true, cond-false, eq-eqb, false≢true, ne_eqb}
use Rattle.std.proofs.lemmas.List.{get_or-set_other}
use Rattle.std.proofs.lemmas.List.Sums.{sum_by-append, sum_by-cons}
use Rattle.std.proofs.lemmas.Option.{same_Some}
use Rattle.dine_graph.specs.Plan.{SeenPlan, IsPlan, site_count, edges_of}
use Rattle.dine_rules.specs.declared.events.EventKind.{EventKind}
use Rattle.dine_rules.specs.declared.events.EventKind.TheVariants as event
use Rattle.dine_rules.specs.declared.letters.Letter.{Letter}
use Rattle.dine_rules.specs.declared.letters.Letter.TheVariants as letter
use Rattle.dine_rules.specs.Local.{LocalState, edge_at, meal_fails, neighbour_at, traffic_at}
use Rattle.dine_rules.specs.Steps.{Step, after, given_fork, may, step_by, with_taken}
use Rattle.dine_rules.specs.Steps as step
use Rattle.dine_rules.specs.World.{WorldState, next_letter, no_state, state_of, world_after}
use Rattle.dine_rules.proofs.shared.counting.Persistence.{set_cases}
use Rattle.dine_rules.proofs.shared.links.WorldStreams.{WorldKeeps, event_is_step, option_map_parts, reached_kept}
use Rattle.dine_site.specs.CoreWants.{can_put_off_by_lists}
use Rattle.dine_site.specs.NextEvent.{may_by_itself, own_kinds}
use Rattle.dine_site.specs.Standing.{all_places}
use Rattle.dine_waking.specs.Manners.{IsInManner, can_all_be_put_off, finds_no_ring, has_checked, checked_after, meals_so_far}
use Rattle.dine_waking.specs.Runs.{Acts, ByActing, ByDoorbell, ByHearing, ByRinging, BySleeping, ByTaking, ByWaking, Doing, FallsAsleep, GoesOn, HasToRing, HasToWake, HearsRing, IsCalled, IsToBeWoken, RingsBell, Run, HasToTake, Sleeps, TakesLetter, Thread, ThreadStep, WakesThread, after_ringing, doing_after, doing_rung, fresh_thread, is_woken_by, places_heard, number_there, rings_for, rings_left, thread_after_ring, thread_of}
use Rattle.dine_waking.proofs.Queues.{put_keeps_taken, state_here, taken_elsewhere, taken_here}
use Rattle.dine_waking.proofs.Bells.{RunKeeps, thread_elsewhere, thread_here}
use Rattle.dine_rules.proofs.shared.lists.Finds.{found_passes}
use Rattle.dine_waking.proofs.Ringing.{heard_ringer, heard_rung}

-- ---- rings

rings_for-append : (i : ℕ) (xs ys : List ℕ) → rings_for i (xs ++ ys) ≡ rings_for i xs + rings_for i ys
rings_for-append i xs ys = sum_by-append (λ k. cond (k == i) 1 0) xs ys

rings_for-here : (i : ℕ) (rings : List ℕ) → rings_for i (i ∷ rings) ≡ rings_for i rings + 1
rings_for-here i rings = omega (arith, sum_by-cons (λ k. cond (k == i) 1 0) i rings, cond-true {A = ℕ} (i == i) 1 0 (eq-eqb i i refl))

rings_for-moved : (i j : ℕ) (front rest : List ℕ) → rings_for i (front ++ j ∷ rest) ≡ rings_for i (j ∷ (front ++ rest))
rings_for-moved i j front rest = omega (
  arith,
  rings_for-append i front (j ∷ rest),
  rings_for-append i front rest,
  sum_by-cons (λ k. cond (k == i) 1 0) j rest,
  sum_by-cons (λ k. cond (k == i) 1 0) j (front ++ rest),
)

rings_for-other : (i j : ℕ) (rings : List ℕ) → j ≢ i → rings_for i (j ∷ rings) ≡ rings_for i rings
rings_for-other i j rings other = omega (arith, sum_by-cons (λ k. cond (k == i) 1 0) j rings, cond-false {A = ℕ} (j == i) 1 0 (ne_eqb j i other))

neither : (b : Bool) → (if b then false else false) ≡ false
neither true = refl
neither false = refl

-- an event that a site does by itself leaves no ring heard
none_heard : (kind : EventKind) → places_heard (doing_after kind) ≡ []
none_heard (event.Take i) = refl
none_heard (event.Give i) = refl
none_heard event.End = refl
none_heard event.Begin = refl
none_heard event.Quit = refl
none_heard event.Hungry = refl
none_heard (event.Ask i) = refl
none_heard (event.Done i) = refl
none_heard (event.Close i) = refl

-- ---- an event of the site's own

-- it begins a meal, or it changes nothing of the meals begun and the letters taken
own_changes : (plan : SeenPlan) (s i : ℕ) (state : LocalState) (failed : Bool) (next : ℕ → Option Letter) (kind : EventKind) (one : Step) → may_by_itself plan s state kind ≡ true → step_by failed next kind ≡ Some one
    → (kind ≡ event.Begin) ⊎ (((after plan s state one).ate ≡ state.ate) × ((traffic_at (after plan s state one) i).taken ≡ (traffic_at state i).taken))
own_changes plan s i state failed next (event.Take j) one own is = absurd (false≢true own)
own_changes plan s i state failed next (event.Give j) one own is = inr (subst (λ (x : Step). ((after plan s state x).ate ≡ state.ate) × ((traffic_at (after plan s state x) i).taken ≡ (traffic_at state i).taken)) (same_Some (step.Give j) one is)
    (refl, put_keeps_taken state j i (letter.Fork (given_fork plan s state j))))
own_changes plan s i state failed next event.End one own is = inr (subst (λ (x : Step). ((after plan s state x).ate ≡ state.ate) × ((traffic_at (after plan s state x) i).taken ≡ (traffic_at state i).taken)) (same_Some (step.End failed) one is) (refl, refl))
own_changes plan s i state failed next event.Begin one own is = inl refl
own_changes plan s i state failed next event.Quit one own is = inr (subst (λ (x : Step). ((after plan s state x).ate ≡ state.ate) × ((traffic_at (after plan s state x) i).taken ≡ (traffic_at state i).taken)) (same_Some step.Quit one is) (refl, refl))
own_changes plan s i state failed next event.Hungry one own is = inr (subst (λ (x : Step). ((after plan s state x).ate ≡ state.ate) × ((traffic_at (after plan s state x) i).taken ≡ (traffic_at state i).taken)) (same_Some step.Hungry one is) (refl, refl))
own_changes plan s i state failed next (event.Ask j) one own is = inr (subst (λ (x : Step). ((after plan s state x).ate ≡ state.ate) × ((traffic_at (after plan s state x) i).taken ≡ (traffic_at state i).taken)) (same_Some (step.Ask j) one is)
    (refl, put_keeps_taken state j i (letter.Request (edge_at plan s j))))
own_changes plan s i state failed next (event.Done j) one own is = inr (subst (λ (x : Step). ((after plan s state x).ate ≡ state.ate) × ((traffic_at (after plan s state x) i).taken ≡ (traffic_at state i).taken)) (same_Some (step.Done j) one is)
    (refl, put_keeps_taken state j i letter.Done))
own_changes plan s i state failed next (event.Close j) one own is = inr (subst (λ (x : Step). ((after plan s state x).ate ≡ state.ate) × ((traffic_at (after plan s state x) i).taken ≡ (traffic_at state i).taken)) (same_Some (step.Close j) one is)
    (refl, put_keeps_taken state j i letter.Close))

-- ---- steps

-- what one step does at place i of the site, where no meal of the site begins: nothing is taken there, and no ring for
-- it is lost; or the next letter is taken
pub data AtPlace (plan : SeenPlan) (s i : ℕ) (old new : Run) : Type 0 where
  Stays : meals_so_far new s ≡ meals_so_far old s → (traffic_at (state_of new.world s) i).taken ≡ (traffic_at (state_of old.world s) i).taken
      → rings_for i (rings_left (thread_of old s)) ≤ rings_for i (rings_left (thread_of new s)) → AtPlace plan s i old new
  Took : meals_so_far new s ≡ meals_so_far old s → (l : Letter) → next_letter plan old.world s i ≡ Some l → (traffic_at (state_of new.world s) i).taken ≡ (traffic_at (state_of old.world s) i).taken ++ l ∷ []
      → rings_for i (rings_left (thread_of old s)) ≤ rings_for i (rings_left (thread_of new s)) + 1 → AtPlace plan s i old new

-- what a Begin of the site does: it loses no ring
pub record Begun (plan : SeenPlan) (s i : ℕ) (old new : Run) : Type 0 where
  pub needs : may plan s (state_of old.world s) step.Begin ≡ true
  pub changes : state_of new.world s ≡ after plan s (state_of old.world s) step.Begin
  pub rings : rings_for i (rings_left (thread_of old s)) ≤ rings_for i (rings_left (thread_of new s))

module _ (plan : SeenPlan) (is_plan : IsPlan plan) (s i : ℕ) (is_site : s < site_count plan) (within : i < length (edges_of plan s)) (old new : Run) (keeps : RunKeeps plan old) where
  kept : WorldKeeps plan old.world
  kept = reached_kept plan keeps.events old.world is_plan keeps.reached

  has_thread : s < length old.threads
  has_thread = omega (arith, keeps.threads)

  has_state : s < length old.world
  has_state = omega (arith, kept.sites)

  -- the state and the thread of the site stay
  stays : state_of new.world s ≡ state_of old.world s → rings_for i (rings_left (thread_of old s)) ≤ rings_for i (rings_left (thread_of new s)) → AtPlace plan s i old new
  stays same more = Stays (ap (λ (x : LocalState). x.ate) same) (ap (λ (x : LocalState). (traffic_at x i).taken) same) more

  -- a thread that changes without losing a ring
  as_many : (thread : Thread) → thread_of new s ≡ thread → rings_left (thread_of old s) ≡ rings_left thread → rings_for i (rings_left (thread_of old s)) ≤ rings_for i (rings_left (thread_of new s))
  as_many thread is same = omega (arith, ap (λ (t : Thread). rings_for i (rings_left t)) is, ap (rings_for i) same)

  -- ---- two threads change

  -- neither loses a ring
  two_stay : (x there : ℕ) (here_now there_now : Thread) → new.threads ≡ slice_set (slice_set old.threads x here_now) there there_now → new.world ≡ old.world
      → rings_for i (rings_left (thread_of old x)) ≤ rings_for i (rings_left here_now) → rings_for i (rings_left (thread_of old there)) ≤ rings_for i (rings_left there_now) → AtPlace plan s i old new
  two_stay x there here_now there_now is world here_more there_more =
      let between : List Thread = slice_set old.threads x here_now in
      let threads : thread_of new s ≡ get_or (slice_set between there there_now) s fresh_thread = ap (λ (threads : List Thread). get_or threads s fresh_thread) is in
      stays (ap (λ (world : WorldState). state_of world s) world) (elim (set_cases between there s there_now fresh_thread) [
        | inr w ↦ omega (arith, there_more, ap (λ (t : Thread). rings_for i (rings_left t)) (threads ∙ w.1), ap (λ (t : ℕ). rings_for i (rings_left (thread_of old t))) w.0)
        | inl same ↦ elim (set_cases old.threads x s here_now fresh_thread) [
          | inl still ↦ as_many (thread_of old s) (threads ∙ same ∙ still) refl
          | inr w ↦ omega (arith, here_more, ap (λ (t : Thread). rings_for i (rings_left t)) (threads ∙ same ∙ w.1), ap (λ (t : ℕ). rings_for i (rings_left (thread_of old t))) w.0)
        ]
      ])

  rung_stays : (x : ℕ) → RingsBell plan x old new → AtPlace plan s i old new
  rung_stays x r =
      let there : ℕ = neighbour_at plan x r.i in
      let number : ℕ = number_there plan x r.i in
      let doing : Doing = (thread_of old there).doing in
      let wakes : Bool = is_woken_by r.anyway number r.kind doing in
      two_stay x there (record { doing = after_ringing wakes r.i; bell = (thread_of old x).bell }) (thread_after_ring r.anyway number r.kind (thread_of old there)) r.threads r.world
      (omega (
        arith,
        ap (λ (d : Doing). rings_for i (places_heard d ++ (thread_of old x).bell)) r.rings,
        ap (λ (numbers : List ℕ). rings_for i (numbers ++ (thread_of old x).bell)) (heard_ringer wakes r.i),
      ))
      (omega (
        arith,
        rings_for-append i (places_heard doing) (thread_of old there).bell,
        rings_for-append i (places_heard (doing_rung r.anyway number r.kind doing)) ((thread_of old there).bell ++ number ∷ []),
        rings_for-append i (thread_of old there).bell (number ∷ []),
        ap (rings_for i) (heard_rung r.anyway number r.kind doing),
      ))

  woken_stays : (x : ℕ) → WakesThread plan x old new → AtPlace plan s i old new
  woken_stays x h =
      let there : ℕ = neighbour_at plan x h.i in
      two_stay x there (record { doing = GoesOn; bell = (thread_of old x).bell }) (record { doing = GoesOn; bell = (thread_of old there).bell }) h.threads h.world
      (omega (arith, ap (λ (d : Doing). rings_for i (places_heard d ++ (thread_of old x).bell)) h.wakes))
      (omega (arith, ap (λ (d : Doing). rings_for i (places_heard d ++ (thread_of old there).bell)) h.woken))

  -- ---- another site

  module _ (x : ℕ) (other : s ≢ x) where
    away : (kind : EventKind) → world_after plan old.world (record { site = x; kind = kind }) ≡ Some new.world → state_of new.world s ≡ state_of old.world s
    away kind h =
        let w = event_is_step plan old.world (record { site = x; kind = kind }) new.world h in
        ap (λ (world : WorldState). state_of world s) w.changes ∙ get_or-set_other old.world x s (after plan x (state_of old.world x) w.step) no_state other

    apart : (thread : Thread) → new.threads ≡ slice_set old.threads x thread → rings_for i (rings_left (thread_of old s)) ≤ rings_for i (rings_left (thread_of new s))
    apart thread is = as_many (thread_of old s) (thread_elsewhere old new x thread is s other) refl

    pub other_step : ThreadStep plan x old new → AtPlace plan s i old new
    other_step (ByActing a) = stays (away a.kind a.world) (apart (record { doing = doing_after a.kind; bell = (thread_of old x).bell }) a.threads)
    other_step (ByRinging r) = rung_stays x r
    other_step (ByWaking h) = woken_stays x h
    other_step (ByHearing h) = stays (ap (λ (world : WorldState). state_of world s) h.world) (apart (record { doing = HasToTake h.i; bell = h.front ++ h.rest }) h.threads)
    other_step (ByTaking t) = stays (away (event.Take t.i) t.world) (apart (record { doing = GoesOn; bell = (thread_of old x).bell }) t.threads)
    other_step (BySleeping f) = stays (ap (λ (world : WorldState). state_of world s) f.world) (apart _ f.threads)
    other_step (ByDoorbell d) = stays (ap (λ (world : WorldState). state_of world s) d.world) (apart _ d.threads)

  -- ---- the site itself, which has a ring left

  event_here : (kind : EventKind) → world_after plan old.world (record { site = s; kind = kind }) ≡ Some new.world
      → (one : Step) × (step_by (meal_fails plan s (state_of old.world s)) (next_letter plan old.world s) kind ≡ Some one) × (state_of new.world s ≡ after plan s (state_of old.world s) one)
  event_here kind h =
      let w = event_is_step plan old.world (record { site = s; kind = kind }) new.world h in
      (w.step, w.step_is, state_here plan is_plan old.world new.world s (after plan s (state_of old.world s) w.step) w.changes has_state)

  own_rings : (a : Acts plan s old new) → rings_left (thread_of old s) ≡ (thread_of old s).bell
  own_rings a = ap (λ (d : Doing). places_heard d ++ (thread_of old s).bell) a.goes_on

  acts : (a : Acts plan s old new) → AtPlace plan s i old new ⊎ ((a.kind ≡ event.Begin) × Begun plan s i old new)
  acts a =
      let state : LocalState = state_of old.world s in
      let own : may_by_itself plan s state a.kind ≡ true = found_passes (may_by_itself plan s state) (own_kinds (all_places state)) a.kind a.next in
      let w = event_here a.kind a.world in
      let thread : Thread = record { doing = doing_after a.kind; bell = (thread_of old s).bell } in
      let rings : rings_for i (rings_left (thread_of old s)) ≤ rings_for i (rings_left (thread_of new s)) = as_many thread (thread_here old new s thread a.threads has_thread)
      (own_rings a ∙ ap (λ (numbers : List ℕ). numbers ++ (thread_of old s).bell) (sym (none_heard a.kind))) in
      elim (own_changes plan s i state (meal_fails plan s state) (next_letter plan old.world s) a.kind w.0 own w.1) [
        | inl begins ↦
            let is : step.Begin ≡ w.0 = same_Some step.Begin w.0 (ap (step_by (meal_fails plan s state) (next_letter plan old.world s)) (sym begins) ∙ w.1) in
            inr (
              begins,
              record {
                needs = subst (λ (kind : EventKind). may_by_itself plan s state kind ≡ true) begins own;
                changes = w.2 ∙ ap (after plan s state) (sym is);
                rings = rings;
              },
            )
        | inr v ↦ inl (Stays (ap (λ (x : LocalState). x.ate) w.2 ∙ v.0) (ap (λ (x : LocalState). (traffic_at x i).taken) w.2 ∙ v.1) rings)
      ]

  hears : HearsRing plan s old new → AtPlace plan s i old new
  hears h =
      let thread : Thread = record { doing = HasToTake h.i; bell = h.front ++ h.rest } in
      stays (ap (λ (world : WorldState). state_of world s) h.world) (omega (
        arith,
        ap (λ (t : Thread). rings_for i (rings_left t)) (thread_here old new s thread h.threads has_thread),
        ap (rings_for i) (ap (λ (d : Doing). places_heard d ++ (thread_of old s).bell) h.goes_on ∙ h.bell),
        rings_for-moved i h.i h.front h.rest,
      ))

  takes : TakesLetter plan s old new → AtPlace plan s i old new
  takes t =
      let state : LocalState = state_of old.world s in
      let w = event_here (event.Take t.i) t.world in
      let v = option_map_parts (step.Take t.i) (next_letter plan old.world s t.i) w.0 w.1 in
      let is : state_of new.world s ≡ with_taken t.i v.0 state = w.2 ∙ ap (after plan s state) (sym v.2) in
      let thread : Thread = record { doing = GoesOn; bell = (thread_of old s).bell } in
      let now : rings_left (thread_of new s) ≡ (thread_of old s).bell = ap rings_left (thread_here old new s thread t.threads has_thread) in
      let was : rings_left (thread_of old s) ≡ t.i ∷ (thread_of old s).bell = ap (λ (d : Doing). places_heard d ++ (thread_of old s).bell) t.takes in
      let is_place : i < length state.traffic = omega (arith, (kept.keeps s is_site).every_place) in
      elim (cases_eq t.i i) [
        | inl same ↦ Took (ap (λ (x : LocalState). x.ate) is) v.0 (ap (next_letter plan old.world s) (sym same) ∙ v.1)
            (ap (λ (x : LocalState). (traffic_at x i).taken) is ∙ ap (λ (j : ℕ). (traffic_at (with_taken j v.0 state) i).taken) same ∙ taken_here state i v.0 is_place)
            (omega (arith, ap (rings_for i) now, ap (rings_for i) (was ∙ ap (λ (j : ℕ). j ∷ (thread_of old s).bell) same), rings_for-here i (thread_of old s).bell))
        | inr other ↦ Stays (ap (λ (x : LocalState). x.ate) is) (ap (λ (x : LocalState). (traffic_at x i).taken) is ∙ taken_elsewhere state t.i i v.0 (λ same. other (sym same)))
            (omega (arith, ap (rings_for i) now, ap (rings_for i) was, rings_for-other i t.i (thread_of old s).bell other))
      ]

  falls_asleep : FallsAsleep plan s old new → AtPlace plan s i old new
  falls_asleep f = stays (ap (λ (world : WorldState). state_of world s) f.world) (as_many _ (thread_here old new s _ f.threads has_thread)
      (ap (λ (d : Doing). places_heard d ++ (thread_of old s).bell) f.goes_on))

  is_called : IsCalled plan s old new → AtPlace plan s i old new
  is_called d = stays (ap (λ (world : WorldState). state_of world s) d.world) (as_many _ (thread_here old new s _ d.threads has_thread)
      (ap (λ (d : Doing). places_heard d ++ (thread_of old s).bell) d.sleeps))

  -- whatever its manner: it begins a meal, or not
  pub own_step : (one : ThreadStep plan s old new) → 0 < rings_for i (rings_left (thread_of old s)) → AtPlace plan s i old new ⊎ (Begun plan s i old new × ((checked : ℕ → Bool) → IsInManner plan s checked old new one true → has_checked plan old checked s ≡ true))
  own_step (ByActing a) ringing = elim (acts a) [
    | inl at ↦ inl at
    | inr w ↦ inr (w.1, λ checked polite. polite w.0)
  ]
  own_step (ByRinging r) ringing = inl (rung_stays s r)
  own_step (ByWaking h) ringing = inl (woken_stays s h)
  own_step (ByHearing h) ringing = inl (hears h)
  own_step (ByTaking t) ringing = inl (takes t)
  own_step (BySleeping f) ringing = inl (falls_asleep f)
  own_step (ByDoorbell d) ringing = inl (is_called d)

-- ---- checks

-- a ring is left for a place at which nothing can be put off
finds_some : (plan : SeenPlan) (s : ℕ) (state : LocalState) (i : ℕ) → can_put_off_by_lists plan s state i ≡ false → (bell : List ℕ) → 0 < rings_for i bell → can_all_be_put_off plan s state bell ≡ false
finds_some plan s state i none [] ringing = absurd (omega arith)
finds_some plan s state i none (k ∷ bell) ringing = elim (cases_eq k i) [
  | inl same ↦ ap (λ (j : ℕ). can_put_off_by_lists plan s state j && can_all_be_put_off plan s state bell) same ∙ ap (λ (b : Bool). b && can_all_be_put_off plan s state bell) none
  | inr other ↦ ap (λ (b : Bool). can_put_off_by_lists plan s state k && b) (finds_some plan s state i none bell (omega (arith, ringing, rings_for-other i k bell other))) ∙ and_false (can_put_off_by_lists plan s state k)
]
  where
    and_false : (b : Bool) → (b && false) ≡ false
    and_false true = refl
    and_false false = refl

finds_one : (plan : SeenPlan) (s : ℕ) (state : LocalState) (i : ℕ) → can_put_off_by_lists plan s state i ≡ false → (doing : Doing) (bell : List ℕ) → 0 < rings_for i (places_heard doing ++ bell) → finds_no_ring plan s state doing bell ≡ false
finds_one plan s state i none GoesOn bell ringing = finds_some plan s state i none bell ringing
finds_one plan s state i none (HasToRing k kind) bell ringing = refl
finds_one plan s state i none (HasToWake k) bell ringing = refl
finds_one plan s state i none (HasToTake k) bell ringing = refl
finds_one plan s state i none (Sleeps wants) bell ringing = refl
finds_one plan s state i none (IsToBeWoken k) bell ringing = refl

-- so its site has checked only if it had
pub yet_to_check : (plan : SeenPlan) (i : ℕ) (run : Run) (checked : ℕ → Bool) (s : ℕ) → checked s ≡ false → can_put_off_by_lists plan s (state_of run.world s) i ≡ false → 0 < rings_for i (rings_left (thread_of run s)) → has_checked plan run checked s ≡ false
yet_to_check plan i run checked s yet none ringing = ap (λ (b : Bool). b || finds_no_ring plan s (state_of run.world s) (thread_of run s).doing (thread_of run s).bell) yet
    ∙ finds_one plan s (state_of run.world s) i none (thread_of run s).doing (thread_of run s).bell ringing

-- nor has it after a step of any site
pub yet_after : (plan : SeenPlan) (run : Run) (x : ℕ) (checked : ℕ → Bool) (s : ℕ) → has_checked plan run checked s ≡ false → checked_after plan run x checked s ≡ false
yet_after plan run x checked s yet = ap (λ (b : Bool). if s == x then false else b) yet ∙ neither (s == x)

-- a site that has done a step has yet to check
pub own_check_used : (plan : SeenPlan) (run : Run) (s x : ℕ) (checked : ℕ → Bool) → s ≡ x → checked_after plan run x checked s ≡ false
own_check_used plan run s x checked same = cond-true {A = Bool} (s == x) false (has_checked plan run checked s) (eq-eqb s x same)
