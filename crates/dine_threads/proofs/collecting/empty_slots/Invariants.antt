use Rattle.std.proofs.Common.{◌≡◌, ◌≤◌, None, replicate, vec_len, vec_capacity, vec_items}
use Rattle.dine_graph.specs.Plan.{edge_count}
use Rattle.dine_threads.proofs.collecting.empty_slots.Given as goal

abbrev pub invariant-loop : goal.invariant-loop
invariant-loop g l = record {
  len : vec_len l.slots ≡ l.counter;
  room : edge_count l.plan ≤ vec_capacity l.slots;
  items : vec_items l.slots ≡ replicate l.counter None;
}
