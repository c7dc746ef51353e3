-- A schedule of a plan: its world, and the choices that led there.
use Rattle.std.specs.Prelude.{◌≡◌, ℕ, Bool, true, false, List, [], ◌∷◌, ◌++◌, length, map, slice_get, Option, Some, None, Vec, option_map}
use Rattle.std.specs.declared.alloc.Global.{Global}
use Rattle.dine_graph.specs.Plan.{SeenPlan}
use Rattle.dine_rules.specs.Schedules.{Counted, from_here, replay}
use Rattle.dine_rules.specs.World.{enabled_events, start}
use Rattle.dine_world.specs.Worlds.{RunsTo, SeenWorld}
use Rattle.dine_states.specs.declared.events.Enabled.{Enabled}

-- a schedule: its world, the choices that were done, the event that was done last, and, for each site, those of its
-- meals that have ended and failed
pub record SeenSchedule : Type 0 where
  pub world : SeenWorld
  pub done : List ℕ
  pub last : Option Enabled
  pub failed : List (List ℕ)

-- the run of the choices, from the start of the plan's world
abbrev pub run_of : SeenPlan → List ℕ → Counted
run_of plan choices = replay plan (from_here (start plan)) choices

-- The choices lead from the start of the plan's world to that of the schedule, and each of them did an event.
abbrev pub IsScheduleOf : SeenPlan → SeenSchedule → Type 0
IsScheduleOf plan schedule = RunsTo plan (run_of plan schedule.done) (length schedule.done) schedule.world

-- The schedule goes on by this choice.
pub record GoesOn (plan : SeenPlan) (choice : ℕ) (old new : SeenSchedule) : Type 0 where
  pub done : new.done ≡ old.done ++ choice ∷ []
  pub last : option_map (λ enabled. enabled.number) new.last ≡ Some choice
  pub is : IsScheduleOf plan new

-- What a choice does, and whether it names an event: it names one that is enabled, by which the schedule goes on; or it
-- names none, and nothing changes.
abbrev pub Chooses : SeenPlan → ℕ → Bool → SeenSchedule → SeenSchedule → Type 0
Chooses plan choice true old new = GoesOn plan choice old new
Chooses plan choice false old new = (slice_get (enabled_events plan (run_of plan old.done).world) choice ≡ None) × (new ≡ old)

-- the lists as values
abbrev pub lists_of : List (Vec ℕ Global) → List (List ℕ)
lists_of lists = map (λ (own : Vec ℕ Global). own.items) lists
