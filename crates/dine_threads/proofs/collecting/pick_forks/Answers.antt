use Rattle.std.proofs.Common.{rules, ◌≡◌, ◌++◌, ◌∷◌, [], sym, ap, ◌∙◌, arith, vec_items}
use Rattle.std.proofs.lemmas.Grind.{common_steps}
use Rattle.std.proofs.lemmas.List.{nil_from_length}
use Rattle.std.specs.Vec.Iter.{into_iter_items}
use Rattle.dine_threads.specs.private.Collecting.{forks_found}
use Rattle.dine_threads.proofs.shared.all_sites.Collected.{moved_split, none_left}
use Rattle.dine_threads.proofs.collecting.pick_forks.Goals as goal

pub loop-slot-init : goal.loop-slot-init
loop-slot-init c =
    let none : vec_items c.args.forks.now ≡ [] = nil_from_length (vec_items c.args.forks.now) (omega (arith, c.requires.none, c.args.forks.now.ok.0)) in
    record {
      room = search rules;
      split = ap (λ forks. forks ++ forks_found (into_iter_items c.into_iter-slot-iterator.result)) none ∙ ap forks_found c.into_iter-slot-iterator.ensures.into_iter_gives.0;
    }

pub loop-slot-preserved-in-Some-slot : goal.loop-slot-preserved-in-Some-slot
loop-slot-preserved-in-Some-slot c =
    let rest = into_iter_items c.next.new.self in
    let steps = c.in-Some.ensures.steps in
    record {
      room = omega (arith, c.loop-slot.invariant.room, steps.1, c.push_reserved.ensures.len, c.push_reserved.ensures.capacity);
      split =
          moved_split (vec_items c.loop-slot.forks) (vec_items c.push_reserved.new.self) c.in-Some-slot.fork (forks_found (into_iter_items c.loop-slot.slot-iterator)) (forks_found rest) (forks_found (vec_items c.args.slots)) c.push_reserved.ensures.items
          (ap forks_found (steps.0 ∙ ap (λ slot. slot ∷ rest) c.in-Some-slot.is)) c.loop-slot.invariant.split;
    }

pub loop-slot-preserved : goal.loop-slot-preserved
loop-slot-preserved c =
    let rest = into_iter_items c.next.new.self in
    let steps = c.in-Some.ensures.steps in
    record {
      room = omega (arith, c.loop-slot.invariant.room, steps.1);
      split = sym (ap (λ slots. vec_items c.loop-slot.forks ++ forks_found slots) (steps.0 ∙ ap (λ slot. slot ∷ rest) c.in_default.is)) ∙ c.loop-slot.invariant.split;
    }

pub returns : goal.returns
returns c =
    let none : into_iter_items c.loop-slot.slot-iterator ≡ [] = grind (arith, common_steps) in
    none_left (vec_items c.loop-slot.forks) (forks_found (into_iter_items c.loop-slot.slot-iterator)) (forks_found (vec_items c.args.slots)) (ap forks_found none) c.loop-slot.invariant.split
