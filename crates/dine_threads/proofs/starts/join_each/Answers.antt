use Rattle.std.proofs.Common.{◌≡◌, [], ◌∷◌, ◌++◌, sym, ap, ◌∙◌, subst, arith, append_assoc, vec_items}
use Rattle.std.specs.List.{AllZip}
use Rattle.std.specs.Vec.Iter.{into_iter_items}
use Rattle.std.specs.declared.thread.PromisedHandle.{PromisedHandle}
use Rattle.std.proofs.lemmas.List.{nil_from_length}
use Rattle.dine_threads.proofs.shared.all_sites.Collected.{none_left}
use Rattle.dine_threads.proofs.shared.lists.Zips.{AllZip-grown}
use Rattle.dine_threads.proofs.starts.join_each.Goals as goal

pub push_reserved-requires : goal.push_reserved-requires
push_reserved-requires g c = omega (arith, c.loop-child.invariant.room, c.in-Some.ensures.steps.1)

pub loop-child-preserved : goal.loop-child-preserved
loop-child-preserved g c =
    let was = c.loop-child.invariant in
    let steps = c.in-Some.ensures.steps in
    let child = c.in-Some.child in
    let done = c.loop-child.yielded in
    let push = c.push_reserved.ensures in
    record {
      count = omega (arith, was.count, steps.1, push.len);
      room = omega (arith, was.room, steps.1, push.len, push.capacity);
      split = append_assoc done (child ∷ []) (into_iter_items c.next.new.self) ∙ ap (λ rest. done ++ rest) (sym steps.0) ∙ was.split;
      left = AllZip-grown (λ (child : PromisedHandle _ _) end. g.P.Promise.kept_by child.promise end) done (vec_items c.loop-child.ends) (vec_items c.push_reserved.new.self) child c.join.result push.items c.join.ensures was.left;
    }

pub returns : goal.returns
returns g c =
    let was = c.loop-child.invariant in
    let rest = c.loop-child.child-iterator in
    let none : into_iter_items rest ≡ [] = nil_from_length (into_iter_items rest) (omega (arith, c.in-None.ensures.steps.0, rest.rest.ok.0)) in
    let whole = none_left c.loop-child.yielded (into_iter_items rest) (vec_items c.args.children) none was.split in
    record {
      len = omega (arith, was.count, c.in-None.ensures.steps.0);
      kept = subst (λ children. AllZip (λ (child : PromisedHandle _ _) end. g.P.Promise.kept_by child.promise end) children (vec_items c.loop-child.ends)) whole was.left;
    }
