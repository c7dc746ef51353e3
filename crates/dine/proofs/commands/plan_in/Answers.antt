use Rattle.std.proofs.Common.{◌≡◌, ◌≢◌, ◌≤◌, ◌∙◌, Err, Some, IfSome, length, arith, ap, sym, vec_items}
use Rattle.std.proofs.lemmas.Option.{IfSome_then}
use Rattle.dine_draft.specs.declared.plan_fault.PlanFault.TheVariants as text
use Rattle.dine_words.specs.Input.{input_limit}
use Rattle.dine_words.specs.PlanBytes.{fault_of_bytes}
use Rattle.dine.proofs.ReadingFaults.{of_input_returned, of_text_returned}
use Rattle.dine.proofs.commands.plan_in.Goals as goal

pub returns-in_err-bytes-clause-fault : goal.returns-in_err-bytes-clause-fault
returns-in_err-bytes-clause-fault g c = of_input_returned c.from_residual.result c.in_err-bytes.field-0.0 (g.R.Read.remaining c.args.input.now) (g.R.Read.remaining c.read_input.new.input) c.from_residual.ensures.1 (λ long. c.in_err-bytes.ensures.too_long (ap Err long))

pub returns-in_err-plan_of_bytes-clause-fault : goal.returns-in_err-plan_of_bytes-clause-fault
returns-in_err-plan_of_bytes-clause-fault g c =
    let left = g.R.Read.remaining c.args.input.now in
    let after = g.R.Read.remaining c.read_input.new.input in
    let read = c.in_ok-bytes.ensures in
    let taken = vec_items c.in_ok-bytes.bytes in
    let cause = c.in_err-plan_of_bytes.field-0.0 in
    let refused : cause ≢ text.Memory → IfSome left (λ bytes. fault_of_bytes bytes ≡ Some cause) = λ other. IfSome_then left read.bytes (λ bytes same. ap fault_of_bytes (sym (c.as_slice.ensures.value ∙ same)) ∙ c.in_err-plan_of_bytes.ensures.refused other) in
    let within : IfSome left (λ bytes. length bytes ≤ input_limit) = IfSome_then left read.bytes (λ bytes same. omega (arith, read.within, c.in_ok-bytes.bytes.ok.0, ap length same)) in
    of_text_returned c.from_residual-in_err-plan_of_bytes.result cause left after c.from_residual-in_err-plan_of_bytes.ensures.1 refused read.end within
