use Rattle.std.proofs.Common.{All, map, take, ◌≡◌}
use Rattle.dine_jobs.specs.Workers.{IsFreshWorker, turn_of}
use Rattle.dine_jobs.proofs.executor.Executor.workers.Given as goal

-- each worker that was made is fresh, and they begin with the first turns
abbrev pub invariant-loop-site : goal.invariant-loop-site
invariant-loop-site g l =
    All (IsFreshWorker l.most) l.workers.items
    × (map turn_of l.workers.items ≡ take l.site l.turns)
