use Rattle.std.proofs.Common.{◌≡◌, ◌<◌, ◌++◌, All, [], map, sym, ap, ◌∙◌, subst, arith, vec_items, vec_len}
use Rattle.std.specs.Vec.Iter.{into_iter_items}
use Rattle.std.proofs.lemmas.List.{nil_from_length}
use Rattle.dine_threads.specs.private.SiteStarts.{IsReady, given_to}
use Rattle.dine_threads.proofs.shared.lists.Zips.{all_first, all_rest, mapped_all, mapped_split}
use Rattle.dine_threads.proofs.starts.start_all.Goals as goal

pub start_within-requires-after_bounds : goal.start_within-requires-after_bounds
start_within-requires-after_bounds g c = λ κs bounds.
    all_first (IsReady g.L.Lane g.D.Diner) (into_iter_items c.loop-start.start-iterator) (into_iter_items c.next.new.self) c.in-Some.start c.in-Some.ensures.steps.0 c.loop-start.invariant.ready

pub loop-start-init : goal.loop-start-init
loop-start-init g c =
    let gives : into_iter_items c.into_iter-start-iterator.result ≡ vec_items c.args.starts = c.into_iter-start-iterator.ensures.into_iter_gives.0 in
    let none : vec_items c.args.children.now ≡ [] = nil_from_length (vec_items c.args.children.now) (omega (arith, c.requires.none, c.args.children.now.ok.0)) in
    record {
      len = c.requires.none;
      within = omega arith;
      count = omega (arith, c.into_iter-start-iterator.ensures.into_iter_gives.1, c.args.starts.ok.0);
      room = c.requires.room;
      ready = subst (All (IsReady g.L.Lane g.D.Diner)) (sym gives) c.requires.ready;
      split = ap (λ l. map given_to l ++ into_iter_items c.into_iter-start-iterator.result) none ∙ gives;
    }

pub push_reserved-requires : goal.push_reserved-requires
push_reserved-requires g c = omega (arith, c.loop-start.invariant.len, c.loop-start.invariant.count, c.loop-start.invariant.room, c.in-Some.ensures.steps.1)

pub overflow_add-started : goal.overflow_add-started
overflow_add-started g c = omega (arith, c.loop-start.invariant.count, c.requires.few, c.in-Some.ensures.steps.1)

pub loop-start-preserved : goal.loop-start-preserved
loop-start-preserved g c =
    let was = c.loop-start.invariant in
    let steps = c.in-Some.ensures.steps in
    record {
      len = omega (arith, was.len, c.push_reserved.ensures.len);
      within = omega (arith, was.within, c.in-Some-start_within.ensures.left);
      count = omega (arith, was.count, steps.1);
      room = omega (arith, was.room, c.push_reserved.ensures.capacity);
      ready = all_rest (IsReady g.L.Lane g.D.Diner) (into_iter_items c.loop-start.start-iterator) (into_iter_items c.next.new.self) c.in-Some.start steps.0 was.ready;
      split = mapped_split given_to (vec_items c.loop-start.children) (vec_items c.push_reserved.new.self) c.in-Some-start_within.child c.in-Some.start (into_iter_items c.loop-start.start-iterator) (into_iter_items c.next.new.self) (vec_items c.args.starts) c.push_reserved.ensures.items steps.0 c.in-Some-start_within.ensures.child was.split;
    }

pub returns-in_default : goal.returns-in_default
returns-in_default g c =
    let was = c.loop-start.invariant in
    let more : c.loop-start.started < vec_len c.args.starts = omega (arith, was.count, c.in-Some.ensures.steps.1) in
    record { few = omega (arith, more, was.len); all = tt; some = more; first = sym was.len; all_within = tt; some_within = was.within }

pub returns : goal.returns
returns g c =
    let was = c.loop-start.invariant in
    let all_started : vec_len c.args.starts ≡ c.loop-start.started = omega (arith, was.count, c.in-None.ensures.steps.0) in
    record {
      few = omega (arith, all_started, was.len);
      all = mapped_all given_to (vec_items c.loop-start.children) (into_iter_items c.loop-start.start-iterator) (vec_items c.args.starts) was.split (omega (arith, all_started, was.len, c.args.starts.ok.0, c.loop-start.children.ok.0));
      some = tt;
      first = tt;
      all_within = omega (arith, all_started, was.within);
      some_within = tt;
    }
