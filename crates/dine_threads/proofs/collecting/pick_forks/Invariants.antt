use Rattle.std.proofs.Common.{◌≡◌, ◌+◌, ◌≤◌, ◌++◌, vec_len, vec_capacity, vec_items}
use Rattle.std.specs.Vec.Iter.{into_iter_items, into_iter_len}
use Rattle.dine_threads.specs.private.Collecting.{forks_found}
use Rattle.dine_threads.proofs.collecting.pick_forks.Given as goal

abbrev pub invariant-loop-slot : goal.invariant-loop-slot
invariant-loop-slot l = record {
  room : vec_len l.forks + into_iter_len l.slot-iterator ≤ vec_capacity l.forks;
  split : vec_items l.forks ++ forks_found (into_iter_items l.slot-iterator) ≡ forks_found (vec_items l.fn.slots);
}
