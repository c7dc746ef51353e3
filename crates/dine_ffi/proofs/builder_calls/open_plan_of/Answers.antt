use mir.Syntax.{w64}
use mir.Val.{SFits}
use Rattle.std.proofs.Common.{rules, ℤ, refl, sym, subst}
use Rattle.std.proofs.lemmas.Int.{to_z-of_z}
use Rattle.dine_draft.specs.declared.plan_fault.PlanFault.TheVariants.{Memory}
use Rattle.dine_ffi.specs.Answers.{IsDoneOr}
use Rattle.dine_ffi.specs.Builders.{IsNoPlan}
use Rattle.dine_ffi.proofs.Built.{no_plan_of_memory}
use Rattle.dine_ffi.proofs.builder_calls.open_plan_of.Goals as goal

pub returns-in-Ok-of-clause-refused : goal.returns-in-Ok-of-clause-refused
returns-in-Ok-of-clause-refused c =
    let fits : SFits w64 c.open.result = search rules in
    subst (λ (r : ℤ). IsDoneOr r (Unit {0}) (IsNoPlan c.args.builder.now r)) (sym (to_z-of_z w64 c.open.result fits))
    (no_plan_of_memory c.args.builder.now c.open.result c.open.ensures.memory)

pub returns-in-Err-of-clause-refused : goal.returns-in-Err-of-clause-refused
returns-in-Err-of-clause-refused c = (Memory, (λ other. absurd (other refl)), refl)
