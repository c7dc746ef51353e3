use Rattle.std.proofs.Common.{◌≡◌, ◌<◌, ℕ, false}
use Rattle.dine_graph.specs.Plan.{ends_of, is_between}
use Rattle.dine_graph.proofs.plans.Plan.edge_between.Given as goal

-- no edge so far is between the two
abbrev pub invariant-loop-edge : goal.invariant-loop-edge
invariant-loop-edge l = (e : ℕ) → e < l.edge → is_between (ends_of l.self e) l.a.0 l.b.0 ≡ false
