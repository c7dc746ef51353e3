use mir.Syntax.{w64}
use mir.Val.{SFits, to_z}
use Rattle.std.proofs.lemmas.Int.{to_z-of_z}
use Rattle.std.proofs.Common.{rules, ◌≡◌, ℤ, pos, Option, MatchOption, slice_get, sym, ◌∙◌, ap, subst}
use Rattle.dine_rules.specs.Local.{LocalState}
use Rattle.dine_world.specs.Worlds.{ForEachWorld, SeenWorld}
use Rattle.dine_ffi.specs.Answers.{no_such}
use Rattle.dine_ffi.specs.Contents.{OfHeld, OfWorld}
use Rattle.dine_ffi.specs.declared.contents.Object.{Object}
use Rattle.dine_ffi.specs.declared.contents.Contents.{Contents}
use Rattle.dine_ffi.proofs.OfSites.{no_world}
use Rattle.dine_ffi.proofs.world_calls.dine_raw_world_ate.Goals as goal
use Rattle.dine_ffi.proofs.world_calls.dine_raw_world_ate.Goals.{in-World, in-Plan, in-Plan-2, in-Plan-3}

pub returns-clause-answer : goal.returns-clause-answer
returns-clause-answer c =
    let P : ℤ → SeenWorld → Type 0 = λ r w. ForEachWorld w (λ plan world. MatchOption (slice_get world c.args.site) (r ≡ no_such) (λ (state : LocalState). r ≡ pos state.ate)) in
    let Q : ℤ → Option Contents → Type 0 = λ r held. OfHeld held r (λ object. OfWorld object r (P r)) in
    let r : ℤ = to_z w64 c.match-deref.answer-bits in
    let object = ap (λ (t : Contents). t.object) (sym c.deref.ensures) in
    subst (Q r) (sym c.in-Some.ensures.held) (elim c.match-deref.branch [
      | in-World w ↦
          let fits : SFits w64 w.ate-answer.result = search rules in
          subst (λ (r : ℤ). OfWorld c.in-Some.contents.value.object r (P r)) (sym (w.answer-is ∙ to_z-of_z w64 w.ate-answer.result fits))
          (subst (λ (k : Object). OfWorld k w.ate-answer.result (P w.ate-answer.result)) (sym (object ∙ w.in-World.is)) w.ate-answer.ensures)
      | in-Plan w ↦ subst (λ (k : Object). OfWorld k r (P r)) (sym object) (no_world c.deref.result.now.object r (P r) w.in-Plan.is w.answer-is)
      | in-Plan-2 w ↦ subst (λ (k : Object). OfWorld k r (P r)) (sym object) (no_world c.deref.result.now.object r (P r) w.in-Plan.is w.answer-is)
      | in-Plan-3 w ↦ subst (λ (k : Object). OfWorld k r (P r)) (sym object) (no_world c.deref.result.now.object r (P r) w.in-Plan.is w.answer-is)
    ])
