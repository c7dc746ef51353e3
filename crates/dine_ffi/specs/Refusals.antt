-- Why a text is no plan, as calls report it.
use Rattle.std.specs.Prelude.{◌≡◌, ◌≢◌, ◌⊎◌, ℕ, ℤ, ◌+◌, List, Some, None, length, negsuc, pos}
use Rattle.std.specs.Str.{IsUtf8}
use Rattle.dine_draft.specs.Fault.{number_of_fault, plan_fault_words}
use Rattle.dine_reader.specs.RefusalTests.{first_fault}
use Rattle.dine_draft.specs.declared.plan_fault.PlanFault.{PlanFault}
use Rattle.dine_draft.specs.declared.plan_fault.PlanFault.TheVariants.{NotToml, Memory}
use Rattle.dine_ffi.specs.Answers.{done, memory}
use Rattle.dine_ffi.specs.Written.{over_front}

-- The text is refused for this fault. An allocation may fail at any point. A text that is no UTF-8 is no TOML. Any
-- other fault is the first one of the text.
abbrev pub IsRefusedFor : List ℕ → PlanFault → Type 0
IsRefusedFor text fault = fault ≢ Memory → ((IsUtf8 text → ⊥) × (fault ≡ NotToml)) ⊎ (first_fault text ≡ Some fault)

-- what is returned of a text that is no plan: that an allocation failed; or -100, less the number of the cause
abbrev pub plan_status : PlanFault → ℤ
plan_status Memory = memory
plan_status fault = negsuc (99 + number_of_fault fault)

-- What is reported of a text. It is a plan, and 0 is returned; or it is refused, and the words of the cause are over
-- the front of `out`, and their number is returned; or an allocation failed.
abbrev pub RefusalIs : List ℕ → List ℕ → List ℕ → ℤ → Type 0
RefusalIs text old new result =
    ((first_fault text ≡ None) × (result ≡ done) × (new ≡ old))
    ⊎ ((fault : PlanFault) × IsRefusedFor text fault × (result ≡ pos (length (plan_fault_words fault))) × (new ≡ over_front (plan_fault_words fault) old))
    ⊎ ((result ≡ memory) × (new ≡ old))
