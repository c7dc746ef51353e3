use Rattle.std.proofs.Common.{◌≡◌, ℕ, ◌≤◌, Some, length, slice_get, vec_len, vec_capacity, vec_items}
use Rattle.dine_graph.specs.Plan.{edges_of, site_count}
use Rattle.dine_threads.proofs.collecting.empty_rows.Given as goal

abbrev pub invariant-loop-site : goal.invariant-loop-site
invariant-loop-site g l = record {
  len : vec_len l.rows ≡ l.site;
  room : site_count l.plan ≤ vec_capacity l.rows;
  rooms : (s : ℕ) (row : _) → slice_get (vec_items l.rows) s ≡ Some row → length (edges_of l.plan s) ≤ vec_capacity row;
  none : (s : ℕ) (row : _) → slice_get (vec_items l.rows) s ≡ Some row → vec_len row ≡ 0;
}
