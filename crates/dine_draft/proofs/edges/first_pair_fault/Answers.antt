use Rattle.std.proofs.Common.{map, Some, None, arith, sym, ◌∙◌}
use Rattle.std.proofs.lemmas.List.{length-map}
use Rattle.dine_draft.specs.Refusals.{same_ends}
use Rattle.dine_draft.proofs.shared.ListLemmas.{first_twice_within}
use Rattle.dine_draft.proofs.edges.first_pair_fault.Goals as goal

pub overflow_cast-result : goal.overflow_cast-result
overflow_cast-result c =
    let pairs = map Some c.args.pairs.now in
    let within = first_twice_within same_ends None pairs c.in-Some.edge (sym c.first_edge_twice.ensures ∙ c.in-Some.is) in
    omega (arith, within, length-map c.args.pairs.now Some, c.requires)
