use mir.Syntax.{w64}
use mir.Val.{SFits}
use Rattle.std.proofs.Common.{rules, ◌≡◌, ℤ, sym, subst}
use Rattle.std.proofs.lemmas.Int.{to_z-of_z}
use Rattle.dine_draft.specs.declared.plan_fault.PlanFault.{PlanFault}
use Rattle.dine_ffi.specs.Answers.{IsDoneOr}
use Rattle.dine_ffi.specs.Refusals.{IsRefusedFor, plan_status}
use Rattle.dine_ffi.proofs.Refused.{memory_is}
use Rattle.dine_ffi.proofs.plan_calls.dine_raw_plan_open.Goals as goal

pub returns-in-Ok-clause-refused : goal.returns-in-Ok-clause-refused
returns-in-Ok-clause-refused c = λ closed.
    let fits : SFits w64 c.open.result = search rules in
    subst (λ (r : ℤ). IsDoneOr r (Unit {0}) ((fault : PlanFault) × IsRefusedFor c.args.text.now fault × (r ≡ plan_status fault))) (sym (to_z-of_z w64 c.open.result fits))
    (memory_is c.args.text.now c.open.result c.open.ensures.memory)
