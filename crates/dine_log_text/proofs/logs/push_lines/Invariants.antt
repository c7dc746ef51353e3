use Rattle.std.proofs.Common.{◌≡◌, ◌++◌, ◌-◌, Bool, List, string_bytes}
use Rattle.std.specs.List.{flat_map, range_with_len}
use Rattle.dine_graph.specs.Plan.{edge_count}
use Rattle.dine_world.specs.Outcomes.{with_outcomes}
use Rattle.dine_world.specs.World.{WorldState}
use Rattle.dine_world.specs.Worlds.{IsWorldOf}
use Rattle.dine_log_text.specs.Logs.{edge_lines, line_of_edge}
use Rattle.dine_log_text.proofs.logs.push_lines.Given as goal

-- the text so far, and the lines left, make the whole
abbrev pub invariant-loop-edge : goal.invariant-loop-edge
invariant-loop-edge l = (fails : List (List Bool)) (state : WorldState) → IsWorldOf (with_outcomes l.plan fails) state l.world
    → string_bytes l.text ++ flat_map (line_of_edge l.plan (with_outcomes l.plan fails) state) (range_with_len l.edge (edge_count l.plan - l.edge)) ≡ string_bytes l.fn.text ++ edge_lines l.plan (with_outcomes l.plan fails) state
