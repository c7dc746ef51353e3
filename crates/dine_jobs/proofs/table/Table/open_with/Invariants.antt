use Rattle.std.proofs.Common.{◌≡◌, ◌<◌, ℕ, Some, slice_get}
use Rattle.dine_token.specs.Fork.{SeenFork, other_end}
use Rattle.dine_jobs.proofs.table.Table.open_with.Given as goal

-- no fork so far is of an edge to the neighbour
abbrev pub invariant-loop-place : goal.invariant-loop-place
invariant-loop-place g l = record {
  passed : (i : ℕ) (fork : SeenFork) → i < l.place → slice_get l.fn.self.forks i ≡ Some fork → l.neighbour.0 ≡ other_end fork l.fn.self.site → ⊥;
}
