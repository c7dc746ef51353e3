-- Why a job that can be cancelled failed, in words.
use Rattle.std.specs.Prelude.{ℕ, List, Option, Some, codes}
use Rattle.dine_watch.specs.declared.cancel.Stopped.{Stopped}
use Rattle.dine_watch.specs.declared.cancel.Stopped.TheVariants.{Cancelled, Failed}

-- `cancelled`, or the words for the fault; none if its type does not say which these are
abbrev pub stopped_words : {F : Type 0} → (F → Option (List ℕ)) → Stopped F → Option (List ℕ)
stopped_words words Cancelled = Some (codes "cancelled")
stopped_words words (Failed fault) = words fault
