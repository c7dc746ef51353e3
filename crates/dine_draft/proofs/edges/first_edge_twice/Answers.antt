use Rattle.std.proofs.Common.{◌≡◌, ℕ, ◌<◌, List, length, map, take, get_or, Some, None, below_more, arith, sym, ◌∙◌}
use Rattle.std.specs.List.{list_any}
use Rattle.std.proofs.lemmas.List.{get_or-map, take-map, length-map}
use Rattle.dine_draft.specs.Refusals.{stands_before, same_ends}
use Rattle.dine_draft.proofs.shared.ListLemmas.{list_any-map, first_twice_here, first_twice_none}
use Rattle.dine_draft.proofs.edges.first_edge_twice.Goals as goal

-- whether a pair is one of those before it
before : (pairs : List (ℕ × ℕ)) (i : ℕ) → i < length pairs → stands_before same_ends None (map Some pairs) i ≡ list_any (λ other. same_ends (Some (get_or pairs i (0, 0))) (Some other)) (take i pairs)
unfolding stands_before
before pairs i within =
    rw (get_or-map Some pairs i (0, 0) None within, take-map Some i pairs)
    (list_any-map (same_ends (Some (get_or pairs i (0, 0)))) Some (take i pairs))

pub returns-then-has_pair : goal.returns-then-has_pair
returns-then-has_pair c =
    let pairs = c.args.pairs.now in
    let long = length-map pairs Some in
    let here = before pairs c.loop-i.i c.loop-i-test.true ∙ sym c.has_pair.ensures ∙ c.if-has_pair.true in
    sym (first_twice_here same_ends None (map Some pairs) c.loop-i.i (omega arith) c.loop-i.invariant here)

pub loop-i-preserved : goal.loop-i-preserved
loop-i-preserved c =
    below_more _ _ c.loop-i.invariant (before c.args.pairs.now c.loop-i.i c.loop-i-test.true ∙ sym c.has_pair.ensures ∙ c.if-has_pair.false)

pub returns : goal.returns
returns c =
    let pairs = c.args.pairs.now in
    let long = length-map pairs Some in
    sym (first_twice_none same_ends None (map Some pairs) (λ k h. c.loop-i.invariant k (omega arith)))
