use Rattle.std.proofs.Common.{◌≡◌, Some, [], ◌++◌, map, ap, ◌∙◌, arith, vec_items}
use Rattle.std.specs.Vec.Iter.{into_iter_items}
use Rattle.std.proofs.lemmas.List.{nil_from_length}
use Rattle.dine_threads.proofs.shared.all_sites.Collected.{moved_split, none_left}
use Rattle.dine_threads.proofs.slots.fill_row.Goals as goal

pub loop-thing-init : goal.loop-thing-init
loop-thing-init g c =
    let gives = c.into_iter-thing-iterator.ensures.into_iter_gives in
    let none : vec_items c.args.row.now ≡ [] = nil_from_length (vec_items c.args.row.now) (omega (arith, c.requires.none, c.args.row.now.ok.0)) in
    record {
      room = omega (arith, c.requires.none, c.requires.room, gives.1, c.args.things.ok.0);
      split = ap (λ row. row ++ map Some (into_iter_items c.into_iter-thing-iterator.result)) none ∙ ap (map Some) gives.0;
    }

pub push_reserved-requires : goal.push_reserved-requires
push_reserved-requires g c = omega (arith, c.loop-thing.invariant.room, c.in-Some.ensures.steps.1)

pub loop-thing-preserved : goal.loop-thing-preserved
loop-thing-preserved g c =
    let was = c.loop-thing.invariant in
    let steps = c.in-Some.ensures.steps in
    let push = c.push_reserved.ensures in
    record {
      room = omega (arith, was.room, steps.1, push.len, push.capacity);
      split =
          moved_split (vec_items c.loop-thing.row) (vec_items c.push_reserved.new.self) (Some c.in-Some.thing) (map Some (into_iter_items c.loop-thing.thing-iterator)) (map Some (into_iter_items c.next.new.self)) (map Some (vec_items c.args.things)) push.items (ap (map Some) steps.0) was.split;
    }

pub returns : goal.returns
returns g c =
    let rest = c.loop-thing.thing-iterator in
    let none : into_iter_items rest ≡ [] = nil_from_length (into_iter_items rest) (omega (arith, c.in-None.ensures.steps.0, rest.rest.ok.0)) in
    none_left (vec_items c.loop-thing.row) (map Some (into_iter_items rest)) (map Some (vec_items c.args.things)) (ap (map Some) none) c.loop-thing.invariant.split
