-- The faults that end a command, and the line that reports each.
use Rattle.std.specs.Prelude.{ℕ, List, [], ◌∷◌, ◌++◌, Err, Ok, Option, Result, codes}
use Rattle.std.specs.declared.io.ErrorKind.{ErrorKind}
use Rattle.std.specs.declared.io.ErrorKind.TheVariants as kind
use Rattle.dine_draft.specs.Fault.{plan_fault_words}
use Rattle.dine_draft.specs.declared.plan_fault.PlanFault.{PlanFault}
use Rattle.dine_draft.specs.declared.plan_fault.PlanFault.TheVariants as text
use Rattle.dine_threads.specs.Causes.{cause_of, cause_words}
use Rattle.dine_threads.specs.declared.causes.RunCause.{RunCause}
use Rattle.dine_threads.specs.declared.causes.RunCause.TheVariants as run_cause
use Rattle.dine_threads.specs.declared.gathered.RunFault.{RunFault}
use Rattle.dine_words.specs.Output.{WritesPrefix}
use Rattle.dine.specs.PlanDiners.{SeenPlanDiner}
use Rattle.dine.specs.declared.fault_lines.Fault.{Fault}
use Rattle.dine.specs.declared.fault_lines.Fault.TheVariants as fault
use Rattle.dine_words.specs.declared.status.Status.{Status}
use Rattle.dine_words.specs.declared.status.Status.TheVariants as status
use Rattle.dine_words.specs.declared.words.WordsFault.{WordsFault}
use Rattle.dine_words.specs.declared.words.WordsFault.TheVariants as words
use Rattle.dine_words.specs.declared.input.InputFault.{InputFault}
use Rattle.dine_words.specs.declared.input.InputFault.TheVariants as input

-- the status with which a fault ends the program
abbrev pub status_of : Fault → Status
status_of fault.Usage = status.Usage
status_of (fault.NoPlan cause) = status.PlanRefused
status_of (fault.RunFailed cause) = status.RunFailed
status_of fault.OutOfMemory = status.OutOfMemory
status_of fault.ReadingFailed = status.InputOutput
status_of fault.InputTooLong = status.InputOutput
status_of fault.WritingFailed = status.InputOutput

-- the status with which the program ends for what a command returned
abbrev pub status_after : {T : Type 0} → Result T Fault → Status
status_after (Ok _) = status.Success
status_after (Err cause) = status_of cause

-- the fault of the program for a fault of the arguments
abbrev pub fault_of_words : WordsFault → Fault
fault_of_words words.Usage = fault.Usage
fault_of_words words.Memory = fault.OutOfMemory

-- the fault of the program for a fault of the input
abbrev pub fault_of_input : InputFault → Fault
fault_of_input input.Failed = fault.ReadingFailed
fault_of_input input.TooLong = fault.InputTooLong
fault_of_input input.Memory = fault.OutOfMemory

-- the fault of the program for an error of `env::args`: a failed allocation is one fault, any other error another
abbrev pub fault_of_arguments : ErrorKind → Fault
fault_of_arguments kind.OutOfMemory = fault.OutOfMemory
fault_of_arguments _ = fault.Usage

-- the fault of the program for a cause to refuse a text: a failed allocation is one fault, any other cause another
abbrev pub fault_of_text : PlanFault → Fault
fault_of_text text.Memory = fault.OutOfMemory
fault_of_text cause = fault.NoPlan cause

-- the fault of the program for a cause of a run: a failed allocation is one fault, any other cause another
abbrev pub fault_of_cause : RunCause → Fault
fault_of_cause run_cause.Memory = fault.OutOfMemory
fault_of_cause cause = fault.RunFailed cause

-- the fault of the program for a fault of `run`, by its cause
abbrev pub fault_of_run : RunFault SeenPlanDiner → Fault
fault_of_run returned = fault_of_cause (cause_of returned)

-- the text of the line of a fault, without the name of the program before it
abbrev pub fault_text : Fault → List ℕ
fault_text fault.Usage = codes "usage: dine [run [--table edges|sites] [--links channel|ring] | replay [--choices LIST] | check]"
fault_text (fault.NoPlan cause) = codes "plan refused: " ++ plan_fault_words cause
fault_text (fault.RunFailed cause) = cause_words cause
fault_text fault.OutOfMemory = codes "out of memory"
fault_text fault.ReadingFailed = codes "reading failed"
fault_text fault.InputTooLong = codes "input too long"
fault_text fault.WritingFailed = codes "writing failed"

-- the line that reports a fault, without its line feed
abbrev pub line_of : Fault → List ℕ
line_of cause = codes "dine: " ++ fault_text cause

-- a line with its line feed
abbrev pub whole_line : List ℕ → List ℕ
whole_line line = line ++ 10 ∷ []

-- a beginning of the line was written, maybe none or all of it: it is not known how much a writer takes
abbrev pub IsLineBegun : List ℕ → Option (List ℕ) → Option (List ℕ) → Type 0
IsLineBegun line before after = WritesPrefix before after (whole_line line)
