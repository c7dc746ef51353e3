use Rattle.std.proofs.Common.{◌≡◌, map, take}
use Rattle.dine_draft.specs.Draft.{value_of_edge}
use Rattle.dine_draft.proofs.drafts.values_of.Given as goal

abbrev pub invariant-loop-edge : goal.invariant-loop-edge
invariant-loop-edge l = l.values.items ≡ map value_of_edge (take l.edge-index l.edges)
