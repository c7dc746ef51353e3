use Rattle.std.proofs.Common.{ℕ, ◌<◌, ◌≤◌}
use Rattle.dine_graph.specs.Plan.{job_count}
use Rattle.dine_tellers.specs.declared.TheConstants.{START}
use Rattle.dine_tellers.proofs.can_pay.Given as goal

-- the sites so far
abbrev pub invariant-loop-site : goal.invariant-loop-site
invariant-loop-site l = (s : ℕ) → s < l.site → job_count l.plan s ≤ START
