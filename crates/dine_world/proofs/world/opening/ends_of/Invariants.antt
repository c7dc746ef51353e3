use Rattle.std.proofs.Common.{◌≡◌, ◌≤◌, map, vec_len, vec_capacity}
use Rattle.std.specs.List.{range_with_len}
use Rattle.dine_graph.specs.Plan.{edge_count}
use Rattle.dine_world.specs.Worlds.{ends_seen}
use Rattle.dine_world.proofs.world.opening.ends_of.Given as goal

-- the ends of the edges so far, with room for all
abbrev pub invariant-loop-edge : goal.invariant-loop-edge
invariant-loop-edge l = record {
  so_far : l.ends.items ≡ map (ends_seen l.plan) (range_with_len 0 l.edge);
  count : vec_len l.ends ≡ l.edge;
  room : edge_count l.plan ≤ vec_capacity l.ends;
}
