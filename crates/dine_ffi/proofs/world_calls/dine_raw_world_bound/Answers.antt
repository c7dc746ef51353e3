use mir.Syntax.{w64}
use mir.Val.{SFits, to_z}
use Rattle.std.proofs.lemmas.Int.{to_z-of_z}
use Rattle.std.proofs.Common.{rules, ℤ, Option, sym, ◌∙◌, ap, subst}
use Rattle.dine_rules.specs.Bound.{bound_of}
use Rattle.dine_world.specs.Worlds.{ForEachWorld, SeenWorld}
use Rattle.dine_ffi.specs.Answers.{Reports}
use Rattle.dine_ffi.specs.Contents.{OfHeld, OfWorld}
use Rattle.dine_ffi.specs.declared.contents.Object.{Object}
use Rattle.dine_ffi.specs.declared.contents.Contents.{Contents}
use Rattle.dine_ffi.proofs.OfSites.{no_world}
use Rattle.dine_ffi.proofs.world_calls.dine_raw_world_bound.Goals as goal
use Rattle.dine_ffi.proofs.world_calls.dine_raw_world_bound.Goals.{in-World, in-Plan, in-Plan-2, in-Plan-3}

pub returns-clause-answer : goal.returns-clause-answer
returns-clause-answer c =
    let P : ℤ → SeenWorld → Type 0 = λ r w. ForEachWorld w (λ plan world. Reports r (bound_of plan)) in
    let Q : ℤ → Option Contents → Type 0 = λ r held. OfHeld held r (λ object. OfWorld object r (P r)) in
    let r : ℤ = to_z w64 c.match-deref.answer-bits in
    let object = ap (λ (t : Contents). t.object) (sym c.deref.ensures) in
    subst (Q r) (sym c.in-Some.ensures.held) (elim c.match-deref.branch [
      | in-World w ↦
          let fits : SFits w64 w.bound-answer.result = search rules in
          subst (λ (r : ℤ). OfWorld c.in-Some.contents.value.object r (P r)) (sym (w.answer-is ∙ to_z-of_z w64 w.bound-answer.result fits))
          (subst (λ (k : Object). OfWorld k w.bound-answer.result (P w.bound-answer.result)) (sym (object ∙ w.in-World.is)) w.bound-answer.ensures)
      | in-Plan w ↦ subst (λ (k : Object). OfWorld k r (P r)) (sym object) (no_world c.deref.result.now.object r (P r) w.in-Plan.is w.answer-is)
      | in-Plan-2 w ↦ subst (λ (k : Object). OfWorld k r (P r)) (sym object) (no_world c.deref.result.now.object r (P r) w.in-Plan.is w.answer-is)
      | in-Plan-3 w ↦ subst (λ (k : Object). OfWorld k r (P r)) (sym object) (no_world c.deref.result.now.object r (P r) w.in-Plan.is w.answer-is)
    ])
