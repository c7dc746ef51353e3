use Rattle.std.proofs.Common.{◌≡◌, ◌+◌, ◌≤◌, ◌++◌, Some, map, vec_len, vec_capacity, vec_items}
use Rattle.std.specs.Vec.Iter.{into_iter_items, into_iter_len}
use Rattle.dine_threads.proofs.slots.fill_row.Given as goal

abbrev pub invariant-loop-thing : goal.invariant-loop-thing
invariant-loop-thing g l = record {
  room : vec_len l.row + into_iter_len l.thing-iterator ≤ vec_capacity l.row;
  split : vec_items l.row ++ map Some (into_iter_items l.thing-iterator) ≡ map Some (vec_items l.fn.things);
}
