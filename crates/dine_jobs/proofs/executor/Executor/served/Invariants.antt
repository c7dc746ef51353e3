use Rattle.std.proofs.Common.{◌≡◌, map, take}
use Rattle.dine_jobs.specs.Queues.{done_of}
use Rattle.dine_jobs.proofs.executor.Executor.served.Given as goal

-- the first sites have done all tasks before their turns
abbrev pub invariant-loop-site : goal.invariant-loop-site
invariant-loop-site g l = map done_of l.all.items ≡ take l.site l.turns
