use Rattle.std.proofs.Common.{◌≡◌, ℕ, length, get_or, Some, ap, ◌∙◌, arith}
use Rattle.std.specs.List.{slice_get}
use Rattle.dine_graph.specs.Plan.{positions_at}
use Rattle.dine_graph.proofs.shared.ListLemmas.{each_pushed}
use Rattle.dine_graph.proofs.shared.PlaceLemmas.{low_is_one_of, high_is_one_of, positions_few, positions_has}
use Rattle.dine_graph.proofs.places.places_in.Goals as goal

pub place_in-at_low-requires-clause-few : goal.place_in-at_low-requires-clause-few
place_in-at_low-requires-clause-few c =
    let pair = get_or c.args.ends.now c.loop-edge.edge (0, 0) in
    let list = c.deref.ensures.value ∙ ap (λ v. v.items) c.index-lists-pair.is ∙ c.requires.lists pair.0 c.index-lists-pair.result (c.requires.low c.loop-edge.edge c.loop-edge-test.true) in
    rw list (positions_few c.args.ends.now pair.0 c.requires.few_edges)

pub place_in-at_low-requires-clause-has : goal.place_in-at_low-requires-clause-has
place_in-at_low-requires-clause-has c =
    let pair = get_or c.args.ends.now c.loop-edge.edge (0, 0) in
    let list = c.deref.ensures.value ∙ ap (λ v. v.items) c.index-lists-pair.is ∙ c.requires.lists pair.0 c.index-lists-pair.result (c.requires.low c.loop-edge.edge c.loop-edge-test.true) in
    rw list (positions_has c.args.ends.now c.loop-edge.edge pair.0 c.loop-edge-test.true (low_is_one_of pair))

pub place_in-at_high-requires-clause-few : goal.place_in-at_high-requires-clause-few
place_in-at_high-requires-clause-few c =
    let pair = get_or c.args.ends.now c.loop-edge.edge (0, 0) in
    let list = c.deref-in-loop-edge.ensures.value ∙ ap (λ v. v.items) c.index-lists-pair-in-loop-edge.is ∙ c.requires.lists pair.1 c.index-lists-pair-in-loop-edge.result (c.requires.high c.loop-edge.edge c.loop-edge-test.true) in
    rw list (positions_few c.args.ends.now pair.1 c.requires.few_edges)

pub place_in-at_high-requires-clause-has : goal.place_in-at_high-requires-clause-has
place_in-at_high-requires-clause-has c =
    let pair = get_or c.args.ends.now c.loop-edge.edge (0, 0) in
    let list = c.deref-in-loop-edge.ensures.value ∙ ap (λ v. v.items) c.index-lists-pair-in-loop-edge.is ∙ c.requires.lists pair.1 c.index-lists-pair-in-loop-edge.result (c.requires.high c.loop-edge.edge c.loop-edge-test.true) in
    rw list (positions_has c.args.ends.now c.loop-edge.edge pair.1 c.loop-edge-test.true (high_is_one_of pair))

pub loop-edge-preserved : goal.loop-edge-preserved
loop-edge-preserved c =
    let ends = c.args.ends.now in
    let before = c.loop-edge.invariant in
    let pair = get_or ends c.loop-edge.edge (0, 0) in
    let low = c.deref.ensures.value ∙ ap (λ v. v.items) c.index-lists-pair.is ∙ c.requires.lists pair.0 c.index-lists-pair.result (c.requires.low c.loop-edge.edge c.loop-edge-test.true) in
    let high = c.deref-in-loop-edge.ensures.value ∙ ap (λ v. v.items) c.index-lists-pair-in-loop-edge.is ∙ c.requires.lists pair.1 c.index-lists-pair-in-loop-edge.result (c.requires.high c.loop-edge.edge c.loop-edge-test.true) in
    let place : ℕ × ℕ = (c.place_in-at_low.result, c.place_in-at_high.result) in
    let long : length c.loop-edge.places.items ≡ c.loop-edge.edge = omega (arith, before.len, c.loop-edge.places.ok.0) in
    record {
      len = omega (arith, c.in_ok-push.ensures.len, before.len);
      at_low = rw c.in_ok-push.ensures.items (each_pushed (λ e at. slice_get (positions_at ends (get_or ends e (0, 0)).0) at.0 ≡ Some e) c.loop-edge.places.items place c.loop-edge.edge (0, 0) long before.at_low (rw low at c.place_in-at_low.ensures));
      at_high = rw c.in_ok-push.ensures.items (each_pushed (λ e at. slice_get (positions_at ends (get_or ends e (0, 0)).1) at.1 ≡ Some e) c.loop-edge.places.items place c.loop-edge.edge (0, 0) long before.at_high (rw high at c.place_in-at_high.ensures));
    }
