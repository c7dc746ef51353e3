-- What each command does, with the bytes that are left in the input and the bytes that are in the output.
use Rattle.std.specs.Prelude.{◌≡◌, ◌≢◌, ◌<◌, ◌≤◌, ◌∷◌, List, ℕ, Option, Some, None, IfSome, false, length, take}
use Rattle.std.specs.Io.KnownBytes.{Appends, IsAtEnd}
use Rattle.dine_graph.specs.Plan.{SeenPlan}
use Rattle.dine_draft.specs.declared.plan_fault.PlanFault.{PlanFault}
use Rattle.dine.specs.declared.fault_lines.Fault.{Fault}
use Rattle.dine.specs.declared.fault_lines.Fault.TheVariants as fault
use Rattle.dine_words.specs.declared.status.Status.{Status}
use Rattle.dine_words.specs.declared.status.Status.TheVariants as status
use Rattle.dine_words.specs.Input.{input_limit}
use Rattle.dine.specs.FaultLines.{IsLineBegun, line_of, status_of}
use Rattle.dine_words.specs.Check.{check_text}
use Rattle.dine_words.specs.PlanBytes.{IsPlanBytes, fault_of_bytes}
use Rattle.dine_log_text.specs.Replay.{replay_text}
use Rattle.dine.specs.Run.{IsRunText, NamesSite, IsFaultOfRun}
use Rattle.dine_words.specs.Words.{AreRight, Asked, Checks, HasNoFault, Replays, Runs, are_taken, command_in, dine_app}
use Rattle.dine_words.specs.declared.words.Links.{Links}
use Rattle.dine_words.specs.declared.words.Table.{Table}

-- the bytes are a text that the command makes of a plan; the text of a run is the same over links of any kind
abbrev pub IsTextOf : Asked → SeenPlan → List ℕ → Type 0
IsTextOf (Runs table links) plan text = IsRunText table plan text
IsTextOf (Replays choices) plan text = text ≡ replay_text choices plan
IsTextOf Checks plan text = text ≡ check_text plan

-- a plan was read, and a text of it was written whole
pub record Writes (IsText : SeenPlan → List ℕ → Type 0) (left before after : Option (List ℕ)) : Type 0 where
  pub plan : SeenPlan
  pub text : List ℕ
  pub reads : IfSome left (λ bytes. IsPlanBytes bytes plan)
  pub is_text : IsText plan text
  pub writes : Appends before after text

-- a plan was read, and the first bytes of a text of it were written
pub record WritesPart (IsText : SeenPlan → List ℕ → Type 0) (left before after : Option (List ℕ)) : Type 0 where
  pub plan : SeenPlan
  pub text : List ℕ
  pub count : ℕ
  pub reads : IfSome left (λ bytes. IsPlanBytes bytes plan)
  pub is_text : IsText plan text
  pub writes : Appends before after (take count text)

-- the whole text of the command was written; with no command this is never so
abbrev pub IsDone : Option Asked → Option (List ℕ) → Option (List ℕ) → Option (List ℕ) → Type 0
IsDone None left before after = ⊥
IsDone (Some command) left before after = Writes (IsTextOf command) left before after

-- a beginning of the text of the command was written, maybe all of it; with no command this is never so
abbrev pub IsPartDone : Option Asked → Option (List ℕ) → Option (List ℕ) → Option (List ℕ) → Type 0
IsPartDone None left before after = ⊥
IsPartDone (Some command) left before after = WritesPart (IsTextOf command) left before after

-- the bytes are not the text of a plan: there is a cause to refuse them
abbrev pub IsRefused : List ℕ → Type 0
IsRefused bytes = (cause : PlanFault) × (fault_of_bytes bytes ≡ Some cause)

-- the bytes that are left are known, and are the text of a plan
abbrev pub IsPlanLeft : Option (List ℕ) → Type 0
IsPlanLeft left = (bytes : List ℕ) × (left ≡ Some bytes) × (fault_of_bytes bytes ≡ None)

-- the bytes that are left are known, and there are more than an input may have
abbrev pub IsTooLong : Option (List ℕ) → Type 0
IsTooLong left = (bytes : List ℕ) × (left ≡ Some bytes) × (input_limit < length bytes)

-- the bytes that are left are known, and there is one
abbrev pub IsByteLeft : Option (List ℕ) → Type 0
IsByteLeft left = (byte : ℕ) × (bytes : List ℕ) × (left ≡ Some (byte ∷ bytes))

-- if the fault is that the input is not the text of a plan, its cause is the one for which the bytes are refused
abbrev pub HasCauseOf : Fault → Option (List ℕ) → Type 0
HasCauseOf reported left = (cause : PlanFault) → reported ≡ fault.NoPlan cause → IfSome left (λ bytes. fault_of_bytes bytes ≡ Some cause)

-- the command is a run, and the fault is one that a run of this plan may return; a site that it names is one of the
-- plan
pub record FailsRun (asked : Asked) (plan : SeenPlan) (reported : Fault) : Type 0 where
  pub table : Table
  pub links : Links
  pub asks : asked ≡ Runs table links
  pub names : NamesSite plan reported
  pub is_fault : IsFaultOfRun plan reported

-- the command is a run, a plan was read, and the fault is one that a run of this plan may return; a site that it names
-- is one of the plan
pub record IsFailedRun (command : Option Asked) (reported : Fault) (left : Option (List ℕ)) : Type 0 where
  pub table : Table
  pub links : Links
  pub asks : command ≡ Some (Runs table links)
  pub plan : SeenPlan
  pub reads : IfSome left (λ bytes. IsPlanBytes bytes plan)
  pub names : NamesSite plan reported
  pub is_fault : IsFaultOfRun plan reported

-- The arguments are checked first, and the program ends with this status. Unless they or an allocation end it, they are
-- right. If they end it, they are refused, or ask for no command, and nothing was read.
pub record ChecksArguments (arguments : List (List ℕ)) {R : Type 0} (input_before input_after : R) (ended : Status) : Type 0 where
  pub accepted : ended ≢ status.Usage → ended ≢ status.OutOfMemory → AreRight dine_app arguments
  pub usage : ended ≡ status.Usage → are_taken dine_app arguments ≡ false
  pub asks_nothing : ended ≡ status.Usage → HasNoFault dine_app arguments → command_in dine_app arguments ≡ None
  pub unread : ended ≡ status.Usage → input_after ≡ input_before

-- How a command ends with a status: what it read of the bytes that were left in the input, with those left after it,
-- and what it wrote to the output. At success it read a plan to the end of the input, and wrote its whole text. If it
-- refused the plan, it read to the end too, and the bytes are the text of no plan. The output is unchanged if the
-- status is neither success nor that of a failed read or write; and, whatever the status, if the input is too long, or
-- was not read to its end.
pub record Ends (command : Option Asked) (left left_after : Option (List ℕ)) {W : Type 0} (contents : W → Option (List ℕ)) (before after : W) (ended : Status) : Type 0 where
  pub done : ended ≡ status.Success → IsDone command left (contents before) (contents after)
  pub read_to_end : ended ≡ status.Success → IsAtEnd left_after
  pub within : ended ≡ status.Success → IfSome left (λ bytes. length bytes ≤ input_limit)
  pub plan_refused : ended ≡ status.PlanRefused → IfSome left IsRefused
  pub refused_at_end : ended ≡ status.PlanRefused → IsAtEnd left_after
  pub refused_within : ended ≡ status.PlanRefused → IfSome left (λ bytes. length bytes ≤ input_limit)
  pub plan_taken : IsPlanLeft left → ended ≢ status.PlanRefused
  pub unwritten : ended ≢ status.Success → ended ≢ status.InputOutput → after ≡ before
  pub too_long : IsTooLong left → after ≡ before
  pub not_read : IsByteLeft left_after → after ≡ before

-- A fault is the cause for which a command ended. The output is unchanged, unless writing failed: then a beginning of
-- the text was written. If the plan is refused, the cause is the one for which the bytes are refused. If a run failed,
-- the command is a run, and the cause is one that a run of the plan may return. If the input is too long, it has more
-- bytes than the limit.
pub record IsCause (command : Option Asked) (left : Option (List ℕ)) {W : Type 0} (contents : W → Option (List ℕ)) (before after : W) (cause : Fault) : Type 0 where
  pub unwritten : cause ≢ fault.WritingFailed → after ≡ before
  pub part_written : cause ≡ fault.WritingFailed → IsPartDone command left (contents before) (contents after)
  pub has_cause : HasCauseOf cause left
  pub failed_run : status_of cause ≡ status.RunFailed → IsFailedRun command cause left
  pub too_long : cause ≡ fault.InputTooLong → IfSome left (λ bytes. input_limit < length bytes)

-- How a fault ended the program: the cause of the command has the status, and a beginning of its line was written,
-- maybe none or all of it.
pub record EndsByFault (MayBeCause : Fault → Type 0) (faults_before faults_after : Option (List ℕ)) (ended : Status) : Type 0 where
  pub cause : Fault
  pub may_be : MayBeCause cause
  pub ends_so : status_of cause ≡ ended
  pub reported : IsLineBegun (line_of cause) faults_before faults_after
