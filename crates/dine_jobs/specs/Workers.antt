-- What a worker of an open run does in a call: some tasks, in one meal, each in its turn.
use Rattle.std.specs.Prelude.{◌≡◌, ◌≤◌, ◌<◌, ◌+◌, ℕ, Bool, true, false, max}
use Rattle.dine_token.specs.Meal.{SeenMeal}
use Rattle.dine_jobs.specs.declared.executor.Worker.{Worker}

-- a task was run in meal k, and returned what it may return
pub record HasGiven {K O : Type 0} (gives : K → SeenMeal → O → Type 0) (k : ℕ) : Type 0 where
  pub task : K
  pub meal : SeenMeal
  pub output : O
  pub in_meal : meal.k ≡ k
  pub given : gives task meal output

-- the turn of the next task of a worker: how many tasks of its site were done since the executor was opened
abbrev pub turn_of : {K O R : Type 0} → Worker K O R → ℕ
turn_of worker = worker.done.count

-- A worker that has done no task yet in its epoch, and may do `most` tasks in one meal.
pub record IsFreshWorker {K O R : Type 0} (most : ℕ) (worker : Worker K O R) : Type 0 where
  pub most_is : worker.most ≡ most
  pub none : worker.before ≡ turn_of worker

-- A worker did n tasks in meal k: those with the turns from its own on, one after the other, each of which was run.
pub record HasDone {K O R : Type 0} (gives : K → SeenMeal → O → Type 0) (k n : ℕ) (old new : Worker K O R) : Type 0 where
  pub some : 1 ≤ n
  pub few : n ≤ max 1 old.most
  pub counted : turn_of new ≡ turn_of old + n
  pub each : (i : ℕ) → i < n → HasGiven gives k

-- What a call of a worker does in meal k. One that goes well does one task at least, and at most as many as one meal
-- may have; one that fails does none. How many that are stays as it is.
pub record DoesTasks {K O R : Type 0} (gives : K → SeenMeal → O → Type 0) (old : Worker K O R) (k : ℕ) (ok : Bool) (new : Worker K O R) : Type 0 where
  pub same : (new.most ≡ old.most) × (new.before ≡ old.before)
  pub well : ok ≡ true → (n : ℕ) × HasDone gives k n old new
  pub failed : ok ≡ false → turn_of new ≡ turn_of old
