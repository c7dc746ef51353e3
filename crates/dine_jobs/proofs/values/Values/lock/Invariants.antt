use Rattle.std.proofs.Common.{◌≡◌, ◌+◌, ◌≤◌, vec_capacity, vec_len}
use Rattle.std.specs.Vec.Iter.{into_iter_len}
use Rattle.dine_jobs.proofs.values.Values.lock.Given as goal

abbrev pub invariant-loop-value : goal.invariant-loop-value
invariant-loop-value g l = record {
  count : vec_len l.cells + into_iter_len l.value-iterator ≡ vec_len l.fn.values;
  room : vec_len l.fn.values ≤ vec_capacity l.cells;
}
