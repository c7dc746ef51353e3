-- Schedules: lists of choices among the enabled events. That `bound_of` events are enough for any run is the law
-- `finished_runs_are_complete`.
use Rattle.std.specs.Prelude.{ℕ, zero, suc, ◌+◌, List, [], ◌∷◌, Option, Some, None, slice_get, unwrap_or}
use Rattle.dine_graph.specs.Plan.{SeenPlan}
use Rattle.dine_rules.specs.declared.events.Event.{Event}
use Rattle.dine_rules.specs.World.{WorldState, world_after, enabled_events, start}
use Rattle.dine_rules.specs.Bound.{bound_of}

-- a world, and how many events led to it
pub record Counted : Type 0 where
  pub world : WorldState
  pub events : ℕ

-- a run that starts here, with no event yet
abbrev pub from_here : WorldState → Counted
from_here world = record { world = world; events = 0 }

-- the run after this event; if there is none, the run as it was
abbrev pub run_after : SeenPlan → Counted → Option Event → Counted
run_after plan now None = now
run_after plan now (Some e) = record { world = unwrap_or (world_after plan now.world e) now.world; events = now.events + 1 }

-- the run after the n-th of the enabled events, from 0; if there is no such event, the run as it was
abbrev pub run_after_choice : SeenPlan → Counted → ℕ → Counted
run_after_choice plan now n = run_after plan now (slice_get (enabled_events plan now.world) n)

-- the run after the choices, one after the other
abbrev pub replay : SeenPlan → Counted → List ℕ → Counted
replay plan now [] = now
replay plan now (n ∷ choices) = replay plan (run_after_choice plan now n) choices

-- the rest of a run after this event; if there is none, the run as it was
abbrev pub rest_after : (Counted → Counted) → SeenPlan → Counted → Option Event → Counted
rest_after rest plan now None = now
rest_after rest plan now (Some e) = rest (run_after plan now (Some e))

-- the run after the first enabled event, again and again, until no event is enabled, with at most n events
abbrev pub finish_within : ℕ → SeenPlan → Counted → Counted
finish_within zero plan now = now
finish_within (suc n) plan now = rest_after (finish_within n plan) plan now (slice_get (enabled_events plan now.world) 0)

-- the run of the choices, and then of the first enabled events to its end, which takes at most `bound_of` events
abbrev pub whole_run : SeenPlan → List ℕ → Counted
whole_run plan choices = finish_within (bound_of plan) plan (replay plan (from_here (start plan)) choices)

-- the run of the first enabled events alone, from where the choices end
abbrev pub after_choices : SeenPlan → List ℕ → Counted
after_choices plan choices = finish_within (bound_of plan) plan (from_here (replay plan (from_here (start plan)) choices).world)
