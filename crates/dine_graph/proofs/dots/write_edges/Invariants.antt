use Rattle.std.proofs.Common.{◌≡◌, ◌-◌, ◌++◌, List, ℕ}
use Rattle.std.specs.Fmt.{HasWritten, IsPlainFormatter}
use Rattle.std.specs.List.{flat_map, range_with_len}
use Rattle.dine_graph.specs.Dot.{dot_edge, dot_edges}
use Rattle.dine_graph.specs.Plan.{edge_count}
use Rattle.dine_graph.proofs.dots.write_edges.Given as goal

-- the text so far, and the lines left, make the whole
abbrev pub invariant-loop-edge : goal.invariant-loop-edge
invariant-loop-edge g l =
    IsPlainFormatter l.initial.f → (done : List ℕ) × HasWritten g.W.Write.write_str_gives l.initial.f done l.f
    × (done ++ flat_map (dot_edge l.plan) (range_with_len l.edge (edge_count l.plan - l.edge)) ≡ dot_edges l.plan)
