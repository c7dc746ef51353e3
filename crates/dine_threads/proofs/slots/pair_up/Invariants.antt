use Rattle.std.proofs.Common.{◌≡◌, ℕ, ◌≤◌, ◌<◌, vec_len, vec_capacity, vec_items}
use Rattle.dine_graph.specs.Plan.{edge_count}
use Rattle.dine_threads.specs.private.Spots.{slot_at, low_spot, high_spot, ArePairsAt}
use Rattle.dine_threads.proofs.slots.pair_up.Given as goal

abbrev pub invariant-loop-edge : goal.invariant-loop-edge
invariant-loop-edge g l = record {
  len : vec_len l.pairs ≡ l.edge;
  room : edge_count l.plan ≤ vec_capacity l.pairs;
  low : (e : ℕ) → l.edge ≤ e → e < edge_count l.plan → slot_at (vec_items l.rows) (low_spot l.plan e) ≡ slot_at (vec_items l.fn.rows) (low_spot l.plan e);
  high : (e : ℕ) → l.edge ≤ e → e < edge_count l.plan → slot_at (vec_items l.rows) (high_spot l.plan e) ≡ slot_at (vec_items l.fn.rows) (high_spot l.plan e);
  paired : ArePairsAt l.plan (vec_items l.fn.rows) (vec_items l.pairs);
}
