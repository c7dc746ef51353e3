use Rattle.std.proofs.Common.{◌≡◌, [], ◌∷◌, ◌++◌, append_assoc, All, ap, sym, subst, ◌∙◌, arith, vec_items}
use Rattle.std.proofs.lemmas.List.{nil_from_length}
use Rattle.std.specs.Vec.Iter.{into_iter_items}
use Rattle.dine_rules.specs.Letters.{has_close}
use Rattle.dine_link.specs.Lanes.{seen_end}
use Rattle.dine_link.specs.Links.{SeenLink, link_of}
use Rattle.dine_threads.specs.private.Collecting.{AreJoined, IsTakenToClose, links_left}
use Rattle.dine_threads.specs.Gathered.{IsTakenInOrder}
use Rattle.dine_threads.proofs.shared.all_sites.Collected.{none_left}
use Rattle.dine_threads.proofs.lists.Pairs.{links_left-push}
use Rattle.dine_threads.proofs.shared.lists.Zips.{all_first, all_rest, two_more, all_two_more}
use Rattle.dine_threads.proofs.collecting.reconcile_all.Goals as goal

pub loop-pair-init : goal.loop-pair-init
loop-pair-init g c =
    let none : vec_items c.args.links.now ≡ [] = nil_from_length (vec_items c.args.links.now) (omega (arith, c.requires.none, c.args.links.now.ok.0)) in
    let gives : into_iter_items c.into_iter-pair-iterator.result ≡ vec_items c.args.pairs = c.into_iter-pair-iterator.ensures.into_iter_gives.0 in
    record {
      room = omega (arith, c.requires.none, c.requires.room, c.into_iter-pair-iterator.ensures.into_iter_gives.1, c.args.pairs.ok.0);
      joined = subst (All (AreJoined g.L.Lane)) (sym gives) c.requires.joined;
      split = gives;
      lists = none;
      in_order = subst (All IsTakenInOrder) (sym none) (λ k d within. absurd (omega (arith, within)));
      whole = subst (All IsTakenToClose) (sym none) (λ k d within. absurd (omega (arith, within)));
    }

pub reconcile-requires : goal.reconcile-requires
reconcile-requires g c =
    let joined = all_first (AreJoined g.L.Lane) (into_iter_items c.loop-pair.pair-iterator) (into_iter_items c.next.new.self) c.in-Some.pair c.in-Some.ensures.steps.0 c.loop-pair.invariant.joined in
    record { pair = joined.goes }

pub reconcile-requires-in-loop-pair : goal.reconcile-requires-in-loop-pair
reconcile-requires-in-loop-pair g c =
    let joined = all_first (AreJoined g.L.Lane) (into_iter_items c.loop-pair.pair-iterator) (into_iter_items c.next.new.self) c.in-Some.pair c.in-Some.ensures.steps.0 c.loop-pair.invariant.joined in
    record { pair = joined.comes }

pub push_reserved-requires : goal.push_reserved-requires
push_reserved-requires g c = omega (arith, c.loop-pair.invariant.room, c.in-Some.ensures.steps.1)

pub push_reserved-requires-in-loop-pair : goal.push_reserved-requires-in-loop-pair
push_reserved-requires-in-loop-pair g c = omega (arith, c.loop-pair.invariant.room, c.in-Some.ensures.steps.1, c.push_reserved.ensures.len, c.push_reserved.ensures.capacity)

pub returns : goal.returns
returns g c =
    let was = c.loop-pair.invariant in
    let rest = c.loop-pair.pair-iterator in
    let none : into_iter_items rest ≡ [] = nil_from_length (into_iter_items rest) (omega (arith, c.in-None.ensures.steps.0, rest.rest.ok.0)) in
    let whole = none_left c.loop-pair.yielded (into_iter_items rest) (vec_items c.args.pairs) none was.split in
    record {
      lists = was.lists ∙ ap (links_left g.L.Lane) whole;
      in_order = was.in_order;
      whole = was.whole;
    }

pub loop-pair-preserved : goal.loop-pair-preserved
loop-pair-preserved g c =
    let was = c.loop-pair.invariant in
    let lane = g.L.Lane in
    let old = vec_items c.loop-pair.links in
    let mid = vec_items c.push_reserved.new.self in
    let new = vec_items c.push_reserved-in-loop-pair.new.self in
    let goes = c.reconcile.ensures in
    let comes = c.reconcile-in-loop-pair.ensures in
    record {
      room = omega (arith, was.room, c.in-Some.ensures.steps.1, c.push_reserved.ensures.len, c.push_reserved-in-loop-pair.ensures.len, c.push_reserved.ensures.capacity, c.push_reserved-in-loop-pair.ensures.capacity);
      joined = all_rest (AreJoined lane) (into_iter_items c.loop-pair.pair-iterator) (into_iter_items c.next.new.self) c.in-Some.pair c.in-Some.ensures.steps.0 was.joined;
      split = append_assoc c.loop-pair.yielded (c.in-Some.pair ∷ []) (into_iter_items c.next.new.self) ∙ ap (λ rest. c.loop-pair.yielded ++ rest) (sym c.in-Some.ensures.steps.0) ∙ was.split;
      lists =
          two_more (links_left lane c.loop-pair.yielded) old mid new c.reconcile.result c.reconcile-in-loop-pair.result
          (link_of (seen_end lane.seen_tx lane.seen_closed c.in-Some.pair.low.tx) (lane.seen_rx c.in-Some.pair.high.rx)) (link_of (seen_end lane.seen_tx lane.seen_closed c.in-Some.pair.high.tx) (lane.seen_rx c.in-Some.pair.low.rx))
          was.lists c.push_reserved.ensures.items c.push_reserved-in-loop-pair.ensures.items goes.lists comes.lists
          ∙ sym (links_left-push lane c.loop-pair.yielded c.in-Some.pair);
      in_order =
          all_two_more IsTakenInOrder old mid new c.reconcile.result c.reconcile-in-loop-pair.result c.push_reserved.ensures.items c.push_reserved-in-loop-pair.ensures.items was.in_order
          (record { prefix = goes.prefix; nothing_after_close = goes.close_last; moments = goes.moments })
          (record { prefix = comes.prefix; nothing_after_close = comes.close_last; moments = comes.moments });
      whole =
          all_two_more IsTakenToClose old mid new c.reconcile.result c.reconcile-in-loop-pair.result c.push_reserved.ensures.items c.push_reserved-in-loop-pair.ensures.items was.whole
          (λ closed. goes.whole (sym (ap (λ (l : SeenLink). has_close l.taken) goes.lists) ∙ closed))
          (λ closed. comes.whole (sym (ap (λ (l : SeenLink). has_close l.taken) comes.lists) ∙ closed));
    }
