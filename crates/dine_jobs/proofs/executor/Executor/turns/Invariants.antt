use Rattle.std.proofs.Common.{◌≡◌, vec_len}
use Rattle.dine_jobs.proofs.executor.Executor.turns.Given as goal

-- there is a turn for each site so far
abbrev pub invariant-loop-site : goal.invariant-loop-site
invariant-loop-site g l = vec_len l.turns ≡ l.site
