-- What each step of a site keeps, holds of each site of a world that events reach from the start.
use Rattle.std.proofs.Common.{◌≡◌, ℕ, ◌<◌, Bool, true, List, [], ◌∷◌, slice_set, Option, Some, sym, subst, inl, inr, arith}
use Rattle.std.proofs.lemmas.Bool.{cases_eq}
use Rattle.std.proofs.lemmas.List.{get_or-set_same, get_or-set_other}
use Rattle.std.proofs.lemmas.Option.{same_Some}
use Rattle.dine_graph.specs.Plan.{SeenPlan, IsPlan, site_count}
use Rattle.dine_rules.specs.declared.events.Event.{Event}
use Rattle.dine_rules.specs.declared.events.EventKind.{EventKind}
use Rattle.dine_rules.specs.declared.events.EventKind.TheVariants as event
use Rattle.dine_rules.specs.Local.{LocalState, meal_fails, start_of}
use Rattle.dine_rules.specs.declared.letters.Letter.{Letter}
use Rattle.dine_rules.specs.Steps.{Step, Break, Take, after, may, step_by}
use Rattle.dine_rules.specs.Streams.{KeepsStreams}
use Rattle.dine_rules.specs.World.{WorldState, no_state, state_of, start, next_letter, world_after, after_events, Reaches}
use Rattle.dine_rules.proofs.shared.lists.Options.{and_then_parts, option_map_parts}
use Rattle.dine_rules.proofs.shared.links.WorldStreams.{WorldKeeps, event_is_step, event_keeps, start_kept, start_state}

-- each step but a Break is one of a site that ends in order
abbrev pub IsInOrder : Step → Type 0
IsInOrder (Break i) = ⊥
IsInOrder step = Unit {0}

-- no event of the world is a Break
not_break : (failed : Bool) (next : ℕ → Option Letter) (kind : EventKind) (i : ℕ) → step_by failed next kind ≡ Some (Break i) → ⊥
not_break failed next (event.Take k) i h = let w = option_map_parts (Take k) (next k) (Break i) h in let differs : ◌≡◌ {A = Step} (Take k w.0) (Break i) = w.2 in cc
not_break failed next kind i h = cc

no_break : (failed : Bool) (next : ℕ → Option Letter) (kind : EventKind) (step : Step) → step_by failed next kind ≡ Some step → IsInOrder step
no_break failed next kind (Break i) h = absurd (not_break failed next kind i h)
no_break failed next kind step h = tt

module _ (plan : SeenPlan) (is_plan : IsPlan plan) (P : ℕ → LocalState → Type 0) where
  -- it holds of each site at the start
  abbrev pub HoldsAtStart : Type 0
  HoldsAtStart = (s : ℕ) → s < site_count plan → P s (start_of plan s)

  -- each step that a site may do keeps it
  abbrev pub IsKeptByStep : Type 0
  IsKeptByStep = (s : ℕ) (state : LocalState) (step : Step) → s < site_count plan → KeepsStreams plan s state → P s state → IsInOrder step → may plan s state step ≡ true → P s (after plan s state step)

  -- it holds of each site of a world
  abbrev pub HoldsOfEach : WorldState → Type 0
  HoldsOfEach world = (s : ℕ) → s < site_count plan → P s (state_of world s)

  -- an event keeps it, since it changes one site, by a step
  event_holds : IsKeptByStep → (world new : WorldState) (e : Event) → WorldKeeps plan world → HoldsOfEach world → world_after plan world e ≡ Some new → HoldsOfEach new
  event_holds by_step world new e kept holds h =
      let w = event_is_step plan world e new h in
      let state : LocalState = after plan e.site (state_of world e.site) w.step in
      let next : P e.site state = by_step e.site (state_of world e.site) w.step w.is_site (kept.keeps e.site w.is_site) (holds e.site w.is_site) (no_break (meal_fails plan e.site (state_of world e.site)) (next_letter plan world e.site) e.kind w.step w.step_is) w.needs in
      let here : state_of (slice_set world e.site state) e.site ≡ state = get_or-set_same world e.site state no_state (omega (arith, kept.sites, w.is_site)) in
      subst HoldsOfEach (sym w.changes) (λ s is_site. elim (cases_eq s e.site) [
        | inl same ↦ subst (λ (x : ℕ). P x (state_of (slice_set world e.site state) x)) (sym same) (subst (P e.site) (sym here) next)
        | inr other ↦ subst (P s) (sym (get_or-set_other world e.site s state no_state other)) (holds s is_site)
      ])

  -- and so does each event of a list
  events_hold : IsKeptByStep → (world new : WorldState) (events : List Event) → WorldKeeps plan world → HoldsOfEach world → after_events plan world events ≡ Some new → HoldsOfEach new
  events_hold by_step world new [] kept holds h = subst HoldsOfEach (same_Some world new h) holds
  events_hold by_step world new (e ∷ events) kept holds h =
      let w = and_then_parts (λ next. after_events plan next events) (world_after plan world e) new h in
      events_hold by_step w.0 new events (event_keeps plan world w.0 e is_plan kept w.1) (event_holds by_step world w.0 e kept holds w.1) w.2

  -- so it holds of each site of a world that events reach from the start
  pub reached_holds : HoldsAtStart → IsKeptByStep → (events : List Event) (world : WorldState) → Reaches plan events world → HoldsOfEach world
  reached_holds at_start by_step events world h = events_hold by_step (start plan) world events (start_kept plan is_plan)
      (λ s is_site. subst (P s) (sym (start_state plan s is_site)) (at_start s is_site)) h
