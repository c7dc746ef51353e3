use Rattle.std.proofs.Common.{◌≡◌, ◌≤◌, ◌+◌, ◌*◌, map, sum}
use Rattle.std.specs.List.{range_with_len}
use Rattle.dine_token.specs.declared.limits.TheConstants.{MAX_JOBS}
use Rattle.dine_rules.specs.Bound.{meals_due}
use Rattle.dine_world.proofs.world.opening.letters_of_edges.Given as goal

-- the letters of the edges so far, at most 8 * MAX_JOBS + 8 an edge
abbrev pub invariant-loop-edge : goal.invariant-loop-edge
invariant-loop-edge l = record {
  so_far : l.total ≡ sum (map (λ edge. 4 * meals_due l.plan edge + 8) (range_with_len 0 l.edge));
  few : l.total ≤ (8 * MAX_JOBS + 8) * l.edge;
}
