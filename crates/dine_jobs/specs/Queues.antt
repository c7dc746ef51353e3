-- What a queue does: with a task that it takes, and with one that it does not. The words for why, and for why a ticket
-- has no output.
use Rattle.std.specs.Prelude.{◌≡◌, ◌≤◌, ◌⊎◌, ℕ, suc, ◌+◌, ◌-◌, ◌^◌, ◌||◌, nat_lt, not, Bool, true, false, List, codes, length}
use Rattle.dine_jobs.specs.declared.queue.Queue.{Queue}
use Rattle.dine_jobs.specs.declared.queue.Served.{Served}
use Rattle.dine_jobs.specs.declared.queue.SubmitError.{SubmitError}
use Rattle.dine_jobs.specs.declared.queue.SubmitError.TheVariants.{Closed, Full, NoSite, Memory}
use Rattle.dine_jobs.specs.declared.ticket.TicketError.{TicketError}
use Rattle.dine_jobs.specs.declared.ticket.TicketError.TheVariants.{Gone, Pending}

-- A queue as its door has it: how many tasks wait for the site, whether no more are taken, whether the epoch is over,
-- and whether the site asked and has to be rung.
pub record SeenQueue : Type 0 where
  pub tasks : ℕ
  pub closed : Bool
  pub over : Bool
  pub waits : Bool

-- a queue of the code, as its door has it
abbrev pub seen_queue : {K : Type 0} → Queue K → SeenQueue
seen_queue queue = record { tasks = length queue.tasks.items; closed = queue.closed; over = queue.over; waits = queue.waits }

-- The queue took one more task. Who brought it has to ring if the site waited.
pub record IsPut (old new : SeenQueue) (rings : Bool) : Type 0 where
  pub was_open : old.closed ≡ false
  pub tasks : new.tasks ≡ old.tasks + 1
  pub closed : new.closed ≡ old.closed
  pub over : new.over ≡ old.over
  pub waits : new.waits ≡ false
  pub has_to_ring : rings ≡ old.waits

-- The queue was closed. Who did it has to ring if the site waited.
pub record IsClosed (old new : SeenQueue) (rings : Bool) : Type 0 where
  pub tasks : new.tasks ≡ old.tasks
  pub closed : new.closed ≡ true
  pub over : new.over ≡ old.over
  pub waits : new.waits ≡ false
  pub has_to_ring : rings ≡ old.waits

-- The epoch was ended. Who did it has to ring if the site waited.
pub record IsEnded (old new : SeenQueue) (rings : Bool) : Type 0 where
  pub tasks : new.tasks ≡ old.tasks
  pub closed : new.closed ≡ old.closed
  pub over : new.over ≡ true
  pub waits : new.waits ≡ false
  pub has_to_ring : rings ≡ old.waits

-- The site asked whether it is called, to a task or to its end, and got this answer. If it is not called, it waits.
pub record IsAnswered (old new : SeenQueue) (called : Bool) : Type 0 where
  pub is_called : called ≡ ((old.closed || old.over) || nat_lt 0 old.tasks)
  pub tasks : new.tasks ≡ old.tasks
  pub closed : new.closed ≡ old.closed
  pub over : new.over ≡ old.over
  pub waits : new.waits ≡ not called

-- The site took a task out, to do it.
pub record IsTaken (old new : SeenQueue) : Type 0 where
  pub tasks : old.tasks ≡ suc new.tasks
  pub closed : new.closed ≡ old.closed
  pub over : new.over ≡ old.over
  pub waits : new.waits ≡ old.waits

-- how many tasks of a site were done
abbrev pub done_of : Served → ℕ
done_of served = served.done

-- the task that a refusal hands back
abbrev pub task_in : {K : Type 0} → SubmitError K → K
task_in (Closed task) = task
task_in (Full task) = task
task_in (NoSite task) = task
task_in (Memory task) = task

-- The refusal is one that a queue may give: it is Closed only if the queue is closed, and Full only if as many tasks
-- wait as it has capacity for, or if it has accepted as many as a number of 64 bits can be. It never says that there is
-- no such site.
abbrev pub MayRefuse : {K : Type 0} → SubmitError K → Bool → ℕ → ℕ → ℕ → Type 0
MayRefuse (Closed task) closed waiting capacity accepted = closed ≡ true
MayRefuse (Full task) closed waiting capacity accepted = (capacity ≤ waiting) ⊎ (accepted ≡ 2 ^ 64 - 1)
MayRefuse (NoSite task) closed waiting capacity accepted = ⊥
MayRefuse (Memory task) closed waiting capacity accepted = Unit {0}

-- the words for why a task was not taken
abbrev pub submit_error_words : {K : Type 0} → SubmitError K → List ℕ
submit_error_words (Closed task) = codes "the executor is closed"
submit_error_words (Full task) = codes "the queue is full"
submit_error_words (NoSite task) = codes "the plan has no such site"
submit_error_words (Memory task) = codes "out of memory"

-- the words for why a ticket has no output
abbrev pub ticket_error_words : TicketError → List ℕ
ticket_error_words Pending = codes "the task has not ended"
ticket_error_words Gone = codes "the task will not be done"
