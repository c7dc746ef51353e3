-- Open runs whole: the threads of all sites, and at each site the door at which tasks come from outside. The thread of
-- a site asks at its door before it grows hungry, and may sleep there.
use Rattle.std.specs.Prelude.{◌≡◌, ◌⊎◌, ℕ, zero, suc, ◌+◌, ◌<◌, true, false, None, Some}
use Rattle.dine_graph.specs.Plan.{SeenPlan, site_count}
use Rattle.dine_rules.specs.declared.events.EventKind.TheVariants as event
use Rattle.dine_rules.specs.Local.{neighbour_at}
use Rattle.dine_rules.specs.World.{state_of}
use Rattle.dine_site.specs.NextEvent.{next_event}
use Rattle.dine_site.specs.Standing.{has_finished}
use Rattle.dine_waking.specs.Doors.{AllRestAtDoors, Asks, Begins, Closes, Door, DoorStep, Ends, Hears, Submits, first_door, is_called, woken}
use Rattle.dine_waking.specs.Doors as at_door
use Rattle.dine_waking.specs.Runs as inside
use Rattle.dine_waking.specs.Runs.{Acts, HearsRing, IsCalled, RingsBell, Run, TakesLetter, WakesThread, first_moment, fresh_thread, thread_of}

-- an open run at one moment: the run, and the door of each site
pub record OpenRun : Type 0 where
  pub run : Run
  pub doors : ℕ → Door

-- an open run at its start
abbrev pub first_open_run : SeenPlan → OpenRun
first_open_run plan = record { run = first_moment true plan; doors = λ s. first_door }

-- all doors stay as they are
abbrev pub DoorsStay : OpenRun → OpenRun → Type 0
DoorsStay old new = (t : ℕ) → new.doors t ≡ old.doors t

-- the doors of all other sites stay as they are
abbrev pub OtherDoorsStay : ℕ → OpenRun → OpenRun → Type 0
OtherDoorsStay s old new = (t : ℕ) → (t ≡ s → ⊥) → new.doors t ≡ old.doors t

-- The site does the event that it would do first. It grows hungry only if it is called at its door.
pub record ActsOnCall (plan : SeenPlan) (s : ℕ) (old new : OpenRun) : Type 0 where
  pub acts : Acts plan s old.run new.run
  pub busy : (old.doors s).thinker ≡ at_door.Busy
  pub called : acts.kind ≡ event.Hungry → is_called (old.doors s) ≡ true
  pub doors : DoorsStay old new

-- The site rings the bell of a neighbour.
pub record RingsOnCall (plan : SeenPlan) (s : ℕ) (old new : OpenRun) : Type 0 where
  pub rings : RingsBell plan s old.run new.run
  pub doors : DoorsStay old new

-- The site wakes the thread of a neighbour. If that one slept at its door, it goes on.
pub record WakesOnCall (plan : SeenPlan) (s : ℕ) (old new : OpenRun) : Type 0 where
  pub wakes : WakesThread plan s old.run new.run
  pub door : new.doors (neighbour_at plan s wakes.i) ≡ record (old.doors (neighbour_at plan s wakes.i)) { thinker = at_door.Busy }
  pub others : OtherDoorsStay (neighbour_at plan s wakes.i) old new

-- The site hears a ring of a neighbour. If it thought, it goes on.
pub record HearsOnCall (plan : SeenPlan) (s : ℕ) (old new : OpenRun) : Type 0 where
  pub hears : HearsRing plan s old.run new.run
  pub door : new.doors s ≡ record (old.doors s) { thinker = at_door.Busy }
  pub others : OtherDoorsStay s old new

-- The site takes the letter for which it heard a ring.
pub record TakesOnCall (plan : SeenPlan) (s : ℕ) (old new : OpenRun) : Type 0 where
  pub takes : TakesLetter plan s old.run new.run
  pub doors : DoorsStay old new

-- The site falls asleep, when no ring of those outside is left: it can do nothing without a letter, or it asked at its
-- door, and was not called.
pub record SleepsOnCall (plan : SeenPlan) (s : ℕ) (old new : OpenRun) : Type 0 where
  pub sleeps : inside.FallsAsleep plan s old.run new.run
  pub silent : (old.doors s).rings ≡ 0
  pub door : ((next_event plan s (state_of old.run.world s) ≡ None) × ((old.doors s).thinker ≡ at_door.Busy) × (new.doors s ≡ old.doors s))
      ⊎ ((next_event plan s (state_of old.run.world s) ≡ Some event.Hungry) × ((old.doors s).thinker ≡ at_door.Thinks) × (new.doors s ≡ record (old.doors s) { thinker = at_door.Sleeps }))
  pub others : OtherDoorsStay s old new

-- the site does this at its door, and the run stays as it is
pub record AtDoor (s : ℕ) (old new : OpenRun) : Type 0 where
  pub step : DoorStep (old.doors s) (new.doors s)
  pub others : OtherDoorsStay s old new
  pub run : new.run ≡ old.run

-- this step at a door is that the site asks there
abbrev pub IsAsking : (old new : Door) → DoorStep old new → Type 0
IsAsking old new (Asks busy is) = Unit {0}
IsAsking old new step = ⊥

-- this step at a door is that the site hears a ring of those outside
abbrev pub IsHearing : (old new : Door) → DoorStep old new → Type 0
IsHearing old new (Hears rest rings is) = Unit {0}
IsHearing old new step = ⊥

-- The site, which is to grow hungry, asks at its door, and is not called. If it is, it grows hungry.
pub record AsksAtDoor (plan : SeenPlan) (s : ℕ) (old new : OpenRun) : Type 0 where
  pub here : AtDoor s old new
  pub not_called : is_called (old.doors s) ≡ false
  pub asks : IsAsking (old.doors s) (new.doors s) here.step
  pub goes_on : (thread_of old.run s).doing ≡ inside.GoesOn
  pub next : next_event plan s (state_of old.run.world s) ≡ Some event.Hungry

-- The site hears a ring of those outside.
pub record HearsDoorbell (s : ℕ) (old new : OpenRun) : Type 0 where
  pub here : AtDoor s old new
  pub hears : IsHearing (old.doors s) (new.doors s) here.step
  pub goes_on : (thread_of old.run s).doing ≡ inside.GoesOn

-- Somebody outside who has to ring rings the doorbell. If the thread of the site sleeps, it goes on.
pub record RingsDoorbell (plan : SeenPlan) (s : ℕ) (old new : OpenRun) : Type 0 where
  pub rest : ℕ
  pub owed : (old.doors s).owed ≡ suc rest
  pub door : new.doors s ≡ record (old.doors s) { owed = rest; rings = (old.doors s).rings + 1; thinker = woken (old.doors s).thinker }
  pub others : OtherDoorsStay s old new
  pub wakes : IsCalled plan s old.run new.run ⊎ (((wants : _) → (thread_of old.run s).doing ≡ inside.Sleeps wants → ⊥) × (new.run ≡ old.run))

-- One step that is due at a site: its thread does it, or somebody outside who has to ring there.
pub data DueStep (plan : SeenPlan) (s : ℕ) (old new : OpenRun) : Type 0 where
  ToAct : ActsOnCall plan s old new → DueStep plan s old new
  ToRing : RingsOnCall plan s old new → DueStep plan s old new
  ToWake : WakesOnCall plan s old new → DueStep plan s old new
  ToHear : HearsOnCall plan s old new → DueStep plan s old new
  ToTake : TakesOnCall plan s old new → DueStep plan s old new
  ToSleep : SleepsOnCall plan s old new → DueStep plan s old new
  ToAsk : AsksAtDoor plan s old new → DueStep plan s old new
  ToHearDoorbell : HearsDoorbell s old new → DueStep plan s old new
  ToRingDoorbell : RingsDoorbell plan s old new → DueStep plan s old new

-- This step at a door may come at any time, or never: somebody submits a task or closes the door, the epoch ends, or
-- the site takes a task out to do it.
abbrev pub IsFree : (old new : Door) → DoorStep old new → Type 0
IsFree old new (Submits is_open is) = Unit {0}
IsFree old new (Closes is) = Unit {0}
IsFree old new (Ends is) = Unit {0}
IsFree old new (Begins rest busy tasks is) = Unit {0}
IsFree old new step = ⊥

-- such a step at the door of a site
pub record FreeStep (s : ℕ) (old new : OpenRun) : Type 0 where
  pub here : AtDoor s old new
  pub free : IsFree (old.doors s) (new.doors s) here.step

-- one step at a site: it is due, or it may come at any time
pub data SiteStep (plan : SeenPlan) (s : ℕ) (old new : OpenRun) : Type 0 where
  Due : DueStep plan s old new → SiteStep plan s old new
  Free : FreeStep s old new → SiteStep plan s old new

-- one step of an open run
pub record OpenStep (plan : SeenPlan) (old new : OpenRun) : Type 0 where
  pub site : ℕ
  pub is_site : site < site_count plan
  pub step : SiteStep plan site old new

-- n steps lead from one moment of an open run to the other
abbrev pub LeadsByOpenSteps : SeenPlan → ℕ → OpenRun → OpenRun → Type 0
LeadsByOpenSteps plan zero old new = old ≡ new
LeadsByOpenSteps plan (suc n) old new = (next : OpenRun) × OpenStep plan old next × LeadsByOpenSteps plan n next new

-- 1 for a step that is due, and 0 for another one
abbrev pub count_due : (plan : SeenPlan) (s : ℕ) (old new : OpenRun) → SiteStep plan s old new → ℕ
count_due plan s old new (Due step) = 1
count_due plan s old new (Free step) = 0

-- 0 for a step that is due, and 1 for another one
abbrev pub count_free : (plan : SeenPlan) (s : ℕ) (old new : OpenRun) → SiteStep plan s old new → ℕ
count_free plan s old new (Due step) = 0
count_free plan s old new (Free step) = 1

-- how many of these steps are due
abbrev pub due_steps : (plan : SeenPlan) (n : ℕ) (old new : OpenRun) → LeadsByOpenSteps plan n old new → ℕ
due_steps plan zero old new leads = 0
due_steps plan (suc n) old new leads = count_due plan leads.1.site old leads.0 leads.1.step + due_steps plan n leads.0 new leads.2

-- how many of them are not
abbrev pub free_steps : (plan : SeenPlan) (n : ℕ) (old new : OpenRun) → LeadsByOpenSteps plan n old new → ℕ
free_steps plan zero old new leads = 0
free_steps plan (suc n) old new leads = count_free plan leads.1.site old leads.0 leads.1.step + free_steps plan n leads.0 new leads.2

-- An open run is at rest: each site has finished, or rests at its door, and nobody outside has to ring.
pub record IsAtRest (plan : SeenPlan) (at : OpenRun) : Type 0 where
  pub rest : AllRestAtDoors plan at.run.world at.doors
  pub owes : (s : ℕ) → s < site_count plan → (at.doors s).owed ≡ 0
  pub asleep : (s : ℕ) → s < site_count plan → ((has_finished plan s (state_of at.run.world s) ≡ true) × (thread_of at.run s ≡ fresh_thread)) ⊎ ((wants : _) × ((thread_of at.run s).doing ≡ inside.Sleeps wants))
