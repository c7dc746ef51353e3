-- The door of a site on call: how those outside bring it tasks, and how they wake it. The other rings of its bell,
-- those of its neighbours, are in the steps of a run; here one of them is just a step that the thread goes on by.
use Rattle.std.specs.Prelude.{◌≡◌, ◌⊎◌, ℕ, zero, suc, ◌+◌, ◌<◌, ◌||◌, nat_lt, Bool, true, false, Some, if◌then◌else◌}
use Rattle.dine_graph.specs.Plan.{SeenPlan, site_count}
use Rattle.dine_rules.specs.declared.events.EventKind.TheVariants as event
use Rattle.dine_rules.specs.World.{WorldState, state_of}
use Rattle.dine_site.specs.NextEvent.{next_event}
use Rattle.dine_site.specs.Standing.{has_finished}
use Rattle.dine_waking.specs.Resting.{RestsWell}

-- What the thread of the site is at, as far as its door goes.
-- - Busy: it goes on, and asks at the door before it thinks on.
-- - Thinks: it asked, and was not called. It sleeps if its bell has no ring.
-- - Sleeps: it sleeps at its bell.
pub data Thinker : Type 0 where
  Busy : Thinker
  Thinks : Thinker
  Sleeps : Thinker

-- A door: how many tasks wait for the site, whether no more come, whether the epoch is over, whether the site asked and
-- found none, how many rings those outside have yet to ring, how many of their rings the site has not heard, and what
-- its thread is at.
pub record Door : Type 0 where
  pub tasks : ℕ
  pub closed : Bool
  pub over : Bool
  pub waits : Bool
  pub owed : ℕ
  pub rings : ℕ
  pub thinker : Thinker

-- the door before anything happened
abbrev pub first_door : Door
first_door = record { tasks = 0; closed = false; over = false; waits = false; owed = 0; rings = 0; thinker = Busy }

-- the site is called to its end
abbrev pub is_ended : Door → Bool
is_ended door = door.closed || door.over

-- the site is called: to a task, or to its end
abbrev pub is_called : Door → Bool
is_called door = is_ended door || nat_lt 0 door.tasks

-- the rings that are owed once the site is called: one more if it waits
abbrev pub owed_after : Door → ℕ
owed_after door = door.owed + (if door.waits then 1 else 0)

-- what a thread is at once its bell was rung
abbrev pub woken : Thinker → Thinker
woken Sleeps = Busy
woken thinker = thinker

-- One step at the door.
-- - Submits: somebody brings a task. If the site waits, they have to ring.
-- - Closes: somebody closes the door. If the site waits, they have to ring.
-- - Ends: the epoch is over, for a site has done all that it may do in it. If this site waits, that one has to ring.
-- - Rings: somebody who has to ring rings, which wakes the site.
-- - Begins: the site takes a task.
-- - Asks: the site asks whether it is called. If it is not, it waits.
-- - Hears: it hears a ring of those outside, in a check of its bell, or while it thinks. Then it goes on.
-- - GoesOn: it hears a ring of a neighbour while it thinks, or is woken by one. Then it goes on.
-- - FallsAsleep: it thinks, and no ring is left.
pub data DoorStep (old new : Door) : Type 0 where
  Submits : old.closed ≡ false → new ≡ record old { tasks = old.tasks + 1; waits = false; owed = owed_after old } → DoorStep old new
  Closes : new ≡ record old { closed = true; waits = false; owed = owed_after old } → DoorStep old new
  Ends : new ≡ record old { over = true; waits = false; owed = owed_after old } → DoorStep old new
  Rings : (rest : ℕ) → old.owed ≡ suc rest → new ≡ record old { owed = rest; rings = old.rings + 1; thinker = woken old.thinker } → DoorStep old new
  Begins : (rest : ℕ) → old.thinker ≡ Busy → old.tasks ≡ suc rest → new ≡ record old { tasks = rest } → DoorStep old new
  Asks : old.thinker ≡ Busy → new ≡ (if is_called old then record old { waits = false } else record old { waits = true; thinker = Thinks }) → DoorStep old new
  Hears : (rest : ℕ) → old.rings ≡ suc rest → new ≡ record old { rings = rest; thinker = Busy } → DoorStep old new
  GoesOn : new ≡ record old { thinker = Busy } → DoorStep old new
  FallsAsleep : old.thinker ≡ Thinks → old.rings ≡ 0 → new ≡ record old { thinker = Sleeps } → DoorStep old new

-- n steps lead from one moment of a door to the other
abbrev pub LeadsByDoorSteps : ℕ → Door → Door → Type 0
LeadsByDoorSteps zero old new = old ≡ new
LeadsByDoorSteps (suc n) old new = (next : Door) × DoorStep old next × LeadsByDoorSteps n next new

-- the door is one that steps lead to
abbrev pub IsReachedDoor : Door → Type 0
IsReachedDoor door = (n : ℕ) × LeadsByDoorSteps n first_door door

-- The site rests well, and if it may grow hungry, its thread sleeps at the bell of this door.
pub record RestsAtDoor (plan : SeenPlan) (world : WorldState) (door : Door) (s : ℕ) : Type 0 where
  pub rests : RestsWell plan world s
  pub sleeps : next_event plan s (state_of world s) ≡ Some event.Hungry → door.thinker ≡ Sleeps

-- each site of the plan has finished, or it rests at its door
abbrev pub AllRestAtDoors : SeenPlan → WorldState → (ℕ → Door) → Type 0
AllRestAtDoors plan world doors = (s : ℕ) → s < site_count plan → (has_finished plan s (state_of world s) ≡ true) ⊎ RestsAtDoor plan world (doors s) s
