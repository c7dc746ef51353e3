use Rattle.std.proofs.Common.{◌≡◌, ℕ, ◌<◌, false, map, Some, None}
use Rattle.dine_draft.specs.Refusals.{stands_before, same_ends}
use Rattle.dine_draft.proofs.edges.first_edge_twice.Given as goal

abbrev pub invariant-loop-i : goal.invariant-loop-i
invariant-loop-i l = (k : ℕ) → k < l.i → stands_before same_ends None (map Some l.pairs) k ≡ false
