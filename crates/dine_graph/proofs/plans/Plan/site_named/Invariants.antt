use Rattle.std.proofs.Common.{◌≢◌, ◌<◌, ℕ}
use Rattle.dine_graph.specs.Plan.{name_of}
use Rattle.dine_graph.proofs.plans.Plan.site_named.Given as goal

-- no site so far has the name
abbrev pub invariant-loop-site : goal.invariant-loop-site
invariant-loop-site l = (s : ℕ) → s < l.site → name_of l.self s ≢ l.name
