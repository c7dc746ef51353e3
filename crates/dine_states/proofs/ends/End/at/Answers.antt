use Rattle.std.proofs.Common.{◌≡◌, ℕ, List, Some, length, slice_get, refl, sym, subst}
use Rattle.std.proofs.lemmas.Option.{slice_get_read}
use Rattle.dine_states.proofs.ends.End.at.Goals as goal

pub returns : goal.returns
returns c =
    let found = c.in_ok-edge.ensures.lookup in
    let edge = c.in_ok-edge.field-0.now in
    let there = subst (λ (l : List ℕ). slice_get l c.args.place ≡ Some edge) c.edges_of.ensures.edges (slice_get_read c.edges_of.result.now (length c.edges_of.result.now) c.args.place edge refl found.3.0 found.1) in
    (c.new.ensures.is, c.new.ensures.site, sym (c.new.ensures.only c.args.place there))
