-- Each event adds one to the effects of the world.
use Rattle.std.proofs.Common.{◌≡◌, ℕ, ◌+◌, ◌<◌, ◌≤◌, true, cond, List, [], ◌∷◌, ◌++◌, length, Some, refl, sym, ◌∙◌, ap, subst, inl, inr, arith, length-append}
use Rattle.std.specs.List.{range_with_len}
use Rattle.std.proofs.lemmas.Bool.{false≢true, and_parts, cases_Bool, cond-true, cond-false}
use Rattle.std.proofs.lemmas.Option.{same_Some}
use Rattle.dine_graph.specs.Plan.{SeenPlan, IsPlan, site_count, edges_of}
use Rattle.dine_rules.specs.declared.letters.Letter.{Letter}
use Rattle.dine_rules.specs.declared.events.Event.{Event}
use Rattle.dine_rules.specs.declared.phase.Phase.{Phase}
use Rattle.dine_rules.specs.declared.phase.Phase.TheVariants as phase
use Rattle.dine_rules.specs.Local.{LocalState, no_traffic, traffic_at, start_of, is_thinking, is_hungry, is_eating}
use Rattle.dine_rules.specs.Steps.{Step, Hungry, Begin, End, Quit, IsPlaceWithin, after, may, with_put, with_taken}
use Rattle.dine_rules.specs.Streams.{KeepsStreams}
use Rattle.dine_rules.specs.World.{WorldState, no_state, state_of, start, world_after, after_events, Reaches}
use Rattle.dine_rules.specs.Bound.{letters_at, site_effects, effects_of}
use Rattle.dine_rules.proofs.shared.lists.Sums.{sum-one_more, sum-none}
use Rattle.dine_rules.proofs.shared.lists.Options.{and_then_parts}
use Rattle.dine_rules.proofs.shared.one_site.Shapes.{by_moves, may_within, moved, step_shape}
use Rattle.dine_rules.proofs.shared.links.WorldStreams.{WorldKeeps, event_is_step, event_keeps, start_kept}

-- ---- one site

-- what each phase counts for
pub thinking_counts : (p : Phase) → is_thinking p ≡ true → cond {A = ℕ} (is_hungry p) 1 0 + cond {A = ℕ} (is_eating p) 1 0 ≡ 0
thinking_counts phase.Thinking h = refl
thinking_counts phase.Hungry h = absurd (false≢true h)
thinking_counts phase.Eating h = absurd (false≢true h)

pub hungry_counts : (p : Phase) → is_hungry p ≡ true → (cond {A = ℕ} (is_hungry p) 1 0 ≡ 1) × (cond {A = ℕ} (is_eating p) 1 0 ≡ 0)
hungry_counts phase.Thinking h = absurd (false≢true h)
hungry_counts phase.Hungry h = (refl, refl)
hungry_counts phase.Eating h = absurd (false≢true h)

pub eating_counts : (p : Phase) → is_eating p ≡ true → (cond {A = ℕ} (is_hungry p) 1 0 ≡ 0) × (cond {A = ℕ} (is_eating p) 1 0 ≡ 1)
eating_counts phase.Thinking h = absurd (false≢true h)
eating_counts phase.Hungry h = absurd (false≢true h)
eating_counts phase.Eating h = (refl, refl)

module _ (plan : SeenPlan) (s : ℕ) (state : LocalState) (keeps : KeepsStreams plan s state) where
  -- a site that eats has begun a meal
  fed : cond {A = ℕ} (is_eating state.phase) 1 0 ≤ state.ate
  fed = elim (cases_Bool (is_eating state.phase)) [
    | inl eats ↦ omega (arith, cond-true {A = ℕ} (is_eating state.phase) 1 0 eats, keeps.eater_has_begun eats)
    | inr other ↦ omega (arith, cond-false {A = ℕ} (is_eating state.phase) 1 0 other)
  ]

  -- the site has one effect more
  abbrev pub AddsOne : LocalState → Type 0
  AddsOne new = site_effects new ≡ site_effects state + 1

  -- a letter more is put, or taken
  put_adds : (i : ℕ) (l : Letter) → i < length state.traffic → AddsOne (with_put i l state)
  put_adds i l within =
      let longer : letters_at (record { put = (traffic_at state i).put ++ l ∷ []; taken = (traffic_at state i).taken }) ≡ letters_at (traffic_at state i) + 1 = omega (arith, length-append (traffic_at state i).put (l ∷ [])) in
      omega (arith, fed, sum-one_more letters_at state.traffic i (record { put = (traffic_at state i).put ++ l ∷ []; taken = (traffic_at state i).taken }) no_traffic within longer)

  taken_adds : (i : ℕ) (l : Letter) → i < length state.traffic → AddsOne (with_taken i l state)
  taken_adds i l within =
      let longer : letters_at (record { put = (traffic_at state i).put; taken = (traffic_at state i).taken ++ l ∷ [] }) ≡ letters_at (traffic_at state i) + 1 = omega (arith, length-append (traffic_at state i).taken (l ∷ [])) in
      omega (arith, fed, sum-one_more letters_at state.traffic i (record { put = (traffic_at state i).put; taken = (traffic_at state i).taken ++ l ∷ [] }) no_traffic within longer)

  -- each step of a site adds one effect
  pub step_adds : (step : Step) → may plan s state step ≡ true → AddsOne (after plan s state step)
  step_adds Hungry h = omega (arith, thinking_counts state.phase (and_parts _ _ (and_parts _ _ h).0).0)
  step_adds Begin h = omega (arith, hungry_counts state.phase (and_parts _ _ h).0)
  step_adds (End failed) h = omega (arith, fed, eating_counts state.phase h)
  step_adds Quit h =
      let parts = and_parts (is_thinking state.phase) state.must_quit h in
      omega (arith, thinking_counts state.phase parts.0, cond-false {A = ℕ} state.has_quit 1 0 (keeps.quits_once parts.1))
  step_adds step h = by_moves plan s state AddsOne (step_shape step) (after plan s state step) (moved plan s state step)
      (λ i l is. put_adds i l (subst (IsPlaceWithin (length state.traffic)) is (may_within plan s state step h)))
      (λ i l is. taken_adds i l (subst (IsPlaceWithin (length state.traffic)) is (may_within plan s state step h)))
      (λ same is. absurd cc)

-- ---- the world

-- each event adds one effect
event_adds : (plan : SeenPlan) (world new : WorldState) (e : Event) → WorldKeeps plan world → world_after plan world e ≡ Some new → effects_of new ≡ effects_of world + 1
event_adds plan world new e kept h =
    let w = event_is_step plan world e new h in
    let state : LocalState = after plan e.site (state_of world e.site) w.step in
    let within : e.site < length world = omega (arith, w.is_site, kept.sites) in
    ap effects_of w.changes ∙ sum-one_more site_effects world e.site state no_state within (step_adds plan e.site (state_of world e.site) (kept.keeps e.site w.is_site) w.step w.needs)

-- a list of events adds its length
events_add : (plan : SeenPlan) (world new : WorldState) (events : List Event) → IsPlan plan → WorldKeeps plan world → after_events plan world events ≡ Some new → effects_of new ≡ effects_of world + length events
events_add plan world new [] is_plan kept h = ap effects_of (sym (same_Some world new h)) ∙ omega arith
events_add plan world new (e ∷ events) is_plan kept h =
    let w = and_then_parts (λ next. after_events plan next events) (world_after plan world e) new h in
    omega (arith, event_adds plan world w.0 e kept w.1, events_add plan w.0 new events is_plan (event_keeps plan world w.0 e is_plan kept w.1) w.2)

-- at the start there is no effect
start_effects : (plan : SeenPlan) (s : ℕ) → site_effects (start_of plan s) ≡ 0
start_effects plan s = omega (arith, sum-none letters_at (λ (edge : ℕ). no_traffic) (edges_of plan s) (λ edge. refl))

no_effects : (plan : SeenPlan) → effects_of (start plan) ≡ 0
no_effects plan = sum-none site_effects (start_of plan) (range_with_len 0 (site_count plan)) (start_effects plan)

-- the effects of a world that events reach are as many as the events
pub events_counted : (plan : SeenPlan) (events : List Event) (world : WorldState) → IsPlan plan → Reaches plan events world → effects_of world ≡ length events
events_counted plan events world is_plan h = omega (arith, no_effects plan, events_add plan (start plan) world events is_plan (start_kept plan is_plan) h)
