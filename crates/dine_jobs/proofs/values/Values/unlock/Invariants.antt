use Rattle.std.proofs.Common.{◌≡◌, ◌+◌, ◌≤◌, vec_capacity, vec_items, vec_len}
use Rattle.std.specs.Vec.Iter.{into_iter_len}
use Rattle.dine_jobs.specs.EdgeValues.{BelongInOrder}
use Rattle.dine_jobs.proofs.values.Values.unlock.Given as goal

abbrev pub invariant-loop-cell : goal.invariant-loop-cell
invariant-loop-cell g l = record {
  count : vec_len l.numbered + into_iter_len l.cell-iterator ≡ vec_len l.fn.self.cells;
  room : vec_len l.fn.self.cells ≤ vec_capacity l.numbered;
  edges : BelongInOrder (vec_items l.numbered);
}
