-- The faults that end the reading of a plan, by their origin.
use Rattle.std.proofs.Common.{arith, ◌≡◌, ◌≢◌, ◌⊎◌, ◌<◌, ◌≤◌, List, ℕ, Option, Some, Result, Ok, Err, IfErr, IfSome, IsErrAnd, length, inl, inr, refl, sym, ap, subst}
use Rattle.std.specs.Io.KnownBytes.{IsAtEnd}
use Rattle.std.proofs.lemmas.Option.{IfSome_then}
use Rattle.dine_draft.specs.declared.plan_fault.PlanFault.{PlanFault}
use Rattle.dine_draft.specs.declared.plan_fault.PlanFault.TheVariants as text
use Rattle.dine_words.specs.Input.{input_limit}
use Rattle.dine_words.specs.PlanBytes.{fault_of_bytes}
use Rattle.dine_words.specs.declared.input.InputFault.{InputFault}
use Rattle.dine_words.specs.declared.input.InputFault.TheVariants as input
use Rattle.dine.specs.FaultLines.{fault_of_input, fault_of_text}
use Rattle.dine.specs.private.InputFaults.{IsInputFault}
use Rattle.dine.specs.declared.fault_lines.Fault.{Fault}
use Rattle.dine.specs.declared.fault_lines.Fault.TheVariants as fault

-- a cause is a failed allocation, or it is the cause of the fault
decided : (cause : PlanFault) → (cause ≡ text.Memory) ⊎ ((cause ≢ text.Memory) × (fault_of_text cause ≡ fault.NoPlan cause))
decided cause = grind arith

-- a cause that is not a failed allocation is the cause of the fault
pub is_no_plan : (cause : PlanFault) → cause ≢ text.Memory → fault_of_text cause ≡ fault.NoPlan cause
is_no_plan cause other = elim (decided cause) [ inl is ↦ absurd (other is) | inr same ↦ same.1 ]

-- the faults whose clauses hold since none of them applies
of_memory : (left after : Option (List ℕ)) → IsInputFault left after fault.OutOfMemory
of_memory left after = record {
  no_usage = λ e. absurd cc;
  no_output = λ e. absurd cc;
  no_run = λ e. absurd cc;
  too_long = λ e. absurd cc;
  cause = λ cause e. absurd cc;
  refused = λ e. absurd cc;
  at_end = λ e. absurd cc;
  within = λ e. absurd cc;
}

of_failed : (left after : Option (List ℕ)) → IsInputFault left after fault.ReadingFailed
of_failed left after = record {
  no_usage = λ e. absurd cc;
  no_output = λ e. absurd cc;
  no_run = λ e. absurd cc;
  too_long = λ e. absurd cc;
  cause = λ cause e. absurd cc;
  refused = λ e. absurd cc;
  at_end = λ e. absurd cc;
  within = λ e. absurd cc;
}

of_length : (left after : Option (List ℕ)) → IfSome left (λ bytes. input_limit < length bytes) → IsInputFault left after fault.InputTooLong
of_length left after long = record {
  no_usage = λ e. absurd cc;
  no_output = λ e. absurd cc;
  no_run = λ e. absurd cc;
  too_long = λ e. long;
  cause = λ cause e. absurd cc;
  refused = λ e. absurd cc;
  at_end = λ e. absurd cc;
  within = λ e. absurd cc;
}

of_plan : (cause : PlanFault) (left after : Option (List ℕ)) → IfSome left (λ bytes. fault_of_bytes bytes ≡ Some cause) → IsAtEnd after → IfSome left (λ bytes. length bytes ≤ input_limit)
    → IsInputFault left after (fault.NoPlan cause)
of_plan cause left after is end within = record {
  no_usage = λ e. absurd cc;
  no_output = λ e. absurd cc;
  no_run = λ e. absurd cc;
  too_long = λ e. absurd cc;
  cause = λ other e. let same : cause ≡ other = cc in subst (λ (c : PlanFault). IfSome left (λ bytes. fault_of_bytes bytes ≡ Some c)) same is;
  refused = λ e. IfSome_then left is (λ bytes reported. (cause, reported));
  at_end = λ e. end;
  within = λ e. within;
}

-- an input that cannot be read
of_input : (reported : InputFault) (left after : Option (List ℕ)) → (reported ≡ input.TooLong → IfSome left (λ bytes. input_limit < length bytes)) → IsInputFault left after (fault_of_input reported)
of_input input.Failed left after long = of_failed left after
of_input input.TooLong left after long = of_length left after (long refl)
of_input input.Memory left after long = of_memory left after

-- an input that cannot be read, as `?` returns it
pub of_input_returned : {T : Type 0} (result : Result T Fault) (reported : InputFault) (left after : Option (List ℕ)) → IsErrAnd result (λ made. made ≡ fault_of_input reported) → (reported ≡ input.TooLong → IfSome left (λ bytes. input_limit < length bytes))
    → IfErr result (λ made. IsInputFault left after made)
of_input_returned (Ok it) reported left after same long = tt
of_input_returned (Err made) reported left after same long = subst (IsInputFault left after) (sym same) (of_input reported left after long)

-- an input that is not the text of a plan
pub of_text : (cause : PlanFault) (left after : Option (List ℕ)) → (cause ≢ text.Memory → IfSome left (λ bytes. fault_of_bytes bytes ≡ Some cause)) → IsAtEnd after → IfSome left (λ bytes. length bytes ≤ input_limit)
    → IsInputFault left after (fault_of_text cause)
of_text cause left after is end within =
    elim (decided cause) [
      | inl memory ↦ subst (IsInputFault left after) (sym (ap fault_of_text memory)) (of_memory left after)
      | inr other ↦ subst (IsInputFault left after) (sym other.1) (of_plan cause left after (is other.0) end within)
    ]

-- an input that is not the text of a plan, as `?` returns it
pub of_text_returned : {T : Type 0} (result : Result T Fault) (cause : PlanFault) (left after : Option (List ℕ)) → IsErrAnd result (λ made. made ≡ fault_of_text cause)
    → (cause ≢ text.Memory → IfSome left (λ bytes. fault_of_bytes bytes ≡ Some cause)) → IsAtEnd after → IfSome left (λ bytes. length bytes ≤ input_limit)
    → IfErr result (λ made. IsInputFault left after made)
of_text_returned (Ok it) cause left after same is end within = tt
of_text_returned (Err made) cause left after same is end within = subst (IsInputFault left after) (sym same) (of_text cause left after is end within)
