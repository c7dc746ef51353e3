-- The queue of a site as the code has it, and its door.
use Rattle.std.specs.Prelude.{◌≡◌, ◌+◌, Bool, if◌then◌else◌}
use Rattle.dine_jobs.specs.Queues.{SeenQueue}
use Rattle.dine_waking.specs.Doors.{Door, Thinks}

-- the door is that of a site with this queue
pub record IsDoorOf (queue : SeenQueue) (door : Door) : Type 0 where
  pub tasks : door.tasks ≡ queue.tasks
  pub closed : door.closed ≡ queue.closed
  pub over : door.over ≡ queue.over
  pub waits : door.waits ≡ queue.waits

-- the door once its queue is this one
abbrev pub with_queue : Door → SeenQueue → Door
with_queue door queue = record door { tasks = queue.tasks; closed = queue.closed; over = queue.over; waits = queue.waits }

-- and those outside owe one ring more, if somebody has to ring
abbrev pub with_ring : Bool → Door → Door
with_ring rings door = record door { owed = door.owed + (if rings then 1 else 0) }

-- and the site thinks on, unless it is called
abbrev pub with_answer : Bool → Door → Door
with_answer called door = record door { thinker = if called then door.thinker else Thinks }
