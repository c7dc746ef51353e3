use Rattle.std.proofs.Common.{◌≡◌, ◌<◌, ℕ, Some, slice_get}
use Rattle.dine_token.specs.Fork.{SeenFork}
use Rattle.dine_jobs.proofs.table.Table.open_edge.Given as goal

-- no fork so far is of the edge
abbrev pub invariant-loop-place : goal.invariant-loop-place
invariant-loop-place g l = record {
  passed : (i : ℕ) (fork : SeenFork) → i < l.place → slice_get l.fn.self.forks i ≡ Some fork → fork.edge ≡ l.edge.0 → ⊥;
}
