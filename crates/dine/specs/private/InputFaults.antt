-- The faults that end the reading of a plan.
use Rattle.std.specs.Prelude.{◌≡◌, ◌≢◌, ◌<◌, ◌≤◌, List, ℕ, Option, IfSome, length}
use Rattle.std.specs.Io.KnownBytes.{IsAtEnd}
use Rattle.dine.specs.Commands.{IsRefused, HasCauseOf}
use Rattle.dine.specs.FaultLines.{status_of}
use Rattle.dine.specs.declared.fault_lines.Fault.{Fault}
use Rattle.dine.specs.declared.fault_lines.Fault.TheVariants as fault
use Rattle.dine_words.specs.Input.{input_limit}
use Rattle.dine_words.specs.declared.status.Status.TheVariants as status

-- The fault may end the reading of a plan: it is none of the arguments, of a run or of the output. If it is that the
-- input is too long, the input has more bytes than the limit. If it is that the input is not the text of a plan, the
-- input was read to its end, and is refused for this cause.
pub record IsInputFault (left after : Option (List ℕ)) (reported : Fault) : Type 0 where
  pub no_usage : reported ≢ fault.Usage
  pub no_output : reported ≢ fault.WritingFailed
  pub no_run : status_of reported ≢ status.RunFailed
  pub too_long : reported ≡ fault.InputTooLong → IfSome left (λ bytes. input_limit < length bytes)
  pub cause : HasCauseOf reported left
  pub refused : status_of reported ≡ status.PlanRefused → IfSome left IsRefused
  pub at_end : status_of reported ≡ status.PlanRefused → IsAtEnd after
  pub within : status_of reported ≡ status.PlanRefused → IfSome left (λ bytes. length bytes ≤ input_limit)
