use Rattle.std.proofs.Common.{◌≡◌, ◌+◌, ◌*◌, ◌≤◌, ◌++◌, All, vec_len, vec_capacity, vec_items}
use Rattle.std.specs.Vec.Iter.{into_iter_items, into_iter_len}
use Rattle.dine_threads.specs.private.Collecting.{AreJoined, IsTakenToClose, links_left}
use Rattle.dine_threads.specs.Gathered.{IsTakenInOrder}
use Rattle.dine_threads.proofs.collecting.reconcile_all.Given as goal

abbrev pub invariant-loop-pair : goal.invariant-loop-pair
invariant-loop-pair g l = record {
  room : vec_len l.links + 2 * into_iter_len l.pair-iterator ≤ vec_capacity l.links;
  joined : All (AreJoined g.L.Lane) (into_iter_items l.pair-iterator);
  split : l.yielded ++ into_iter_items l.pair-iterator ≡ vec_items l.fn.pairs;
  lists : vec_items l.links ≡ links_left g.L.Lane l.yielded;
  in_order : All IsTakenInOrder (vec_items l.links);
  whole : All IsTakenToClose (vec_items l.links);
}
