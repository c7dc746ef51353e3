use Rattle.std.proofs.Common.{◌≡◌, ◌<◌, ◌+◌, ℕ, max}
use Rattle.dine_jobs.specs.Workers.{HasGiven, turn_of}
use Rattle.dine_jobs.proofs.executor.WorkerJob.run.Given as goal

-- each round does the task whose turn it is, and changes nothing else of the worker
abbrev pub invariant-loop-count : goal.invariant-loop-count
invariant-loop-count g l =
    (l.self.most ≡ l.fn.self.most) × (l.self.before ≡ l.fn.self.before)
    × (turn_of l.self ≡ turn_of l.fn.self + l.count)
    × ((i : ℕ) → i < l.count → HasGiven (g.K.Task.gives) l.table.k)
    × (l.most ≡ max 1 l.fn.self.most)
