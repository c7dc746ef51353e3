use Rattle.std.proofs.Common.{◌≡◌, ◌≤◌, map, take, vec_len, vec_capacity, vec_items}
use Rattle.dine_graph.specs.Plan.{site_count}
use Rattle.dine_threads.specs.Tables.{site_row}
use Rattle.dine_threads.proofs.tables.site_table.Given as goal

abbrev pub invariant-loop-out : goal.invariant-loop-out
invariant-loop-out g l = record {
  len : vec_len l.rows ≡ l.out-index;
  room : site_count l.plan ≤ vec_capacity l.rows;
  rows : vec_items l.rows ≡ map site_row (take l.out-index (vec_items l.gathered.sites));
}
