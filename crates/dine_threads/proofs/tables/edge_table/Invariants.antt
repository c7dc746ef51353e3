use Rattle.std.proofs.Common.{◌≡◌, ◌≤◌, map, vec_len, vec_capacity, vec_items}
use Rattle.std.specs.List.{range_with_len}
use Rattle.dine_graph.specs.Plan.{edge_count}
use Rattle.dine_threads.specs.Tables.{logged_row}
use Rattle.dine_threads.proofs.tables.edge_table.Given as goal

abbrev pub invariant-loop-edge : goal.invariant-loop-edge
invariant-loop-edge g l = record {
  len : vec_len l.rows ≡ l.edge;
  room : edge_count l.plan ≤ vec_capacity l.rows;
  rows : vec_items l.rows ≡ map (logged_row l.plan (vec_items l.gathered.forks)) (range_with_len 0 l.edge);
}
