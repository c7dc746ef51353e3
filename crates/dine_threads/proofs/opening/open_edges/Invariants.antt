use Rattle.std.proofs.Common.{◌≡◌, ℕ, ◌+◌, Some, slice_get, vec_items}
use Rattle.std.specs.Vec.Iter.{into_iter_items, into_iter_len}
use Rattle.dine_graph.specs.Plan.{edge_count}
use Rattle.dine_threads.specs.private.Openings.{ArePlaced, bells_of, rows_of}
use Rattle.dine_threads.specs.private.Wirings.{AreRingersAt}
use Rattle.dine_threads.proofs.opening.open_edges.Given as goal

abbrev pub invariant-loop-pair : goal.invariant-loop-pair
invariant-loop-pair g l = record {
  count : l.edge + into_iter_len l.pair-iterator ≡ edge_count l.plan;
  bells : bells_of (vec_items l.all_ports) ≡ bells_of (vec_items l.fn.all_ports);
  ringers : (k : ℕ) (pair : _) → slice_get (into_iter_items l.pair-iterator) k ≡ Some pair → AreRingersAt l.plan (bells_of (vec_items l.fn.all_ports)) (l.edge + k) pair;
  placed : ArePlaced l.plan (bells_of (vec_items l.fn.all_ports)) l.edge (rows_of g.L.Lane (vec_items l.all_ports));
}
