use mir.Syntax.{w64}
use mir.Val.{SFits}
use Rattle.std.proofs.Common.{rules, pos, slice_get, sym, ◌∙◌, ap, subst}
use Rattle.std.proofs.lemmas.Int.{to_z-of_z}
use Rattle.dine_rules.specs.Local.{LocalState}
use Rattle.dine_world.specs.Worlds.{IsWorldOf}
use Rattle.dine_ffi.specs.Answers.{number_of}
use Rattle.dine_ffi.proofs.OfSites.{none_answer, some_answer}
use Rattle.dine_ffi.proofs.own_world.OwnWorld.phase.Goals as goal

pub returns-in-Some : goal.returns-in-Some
returns-in-Some c plan world is =
    let fits : SFits w64 c.from.result = search rules in
    let seen = c.phase.ensures plan world (subst (IsWorldOf plan world) (sym c.self.view_is) is) in
    some_answer (slice_get world c.args.site) (λ (state : LocalState). state.phase) (number_of) c.in-Some.phase _ (sym c.in-Some.is ∙ seen) (to_z-of_z w64 c.from.result fits ∙ (c.from.ensures ∙ ap pos c.phase_number.ensures))

pub returns-in-None : goal.returns-in-None
returns-in-None c plan world is =
    let seen = c.phase.ensures plan world (subst (IsWorldOf plan world) (sym c.self.view_is) is) in
    none_answer (slice_get world c.args.site) (λ (state : LocalState). state.phase) (number_of) (sym c.in-None.is ∙ seen)
