use Rattle.std.proofs.Common.{◌≡◌, map, take}
use Rattle.dine_draft.specs.Draft.{ends_of_edge}
use Rattle.dine_draft.proofs.edges.ends_of.Given as goal

abbrev pub invariant-loop-edge : goal.invariant-loop-edge
invariant-loop-edge l = l.ends.items ≡ map ends_of_edge (take l.edge-index l.edges)
