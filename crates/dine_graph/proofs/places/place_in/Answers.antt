use Rattle.std.proofs.Common.{sym, ◌∙◌, arith}
use Rattle.std.proofs.lemmas.Bool.{false≢true}
use Rattle.dine_graph.proofs.shared.ListLemmas.{list_any_missing}
use Rattle.dine_graph.proofs.places.place_in.Goals as goal

pub unreachable-requires : goal.unreachable-requires
unreachable-requires c =
    false≢true (sym (list_any_missing c.args.list.now c.args.edge (λ k h. c.loop-place.invariant k (omega arith))) ∙ c.requires.has)
