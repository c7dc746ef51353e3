-- Values, each with the number of its edge: in the cells of a run, open, and at its end.
use Rattle.std.specs.Prelude.{◌≡◌, ◌≤◌, ℕ, List, Some, slice_get, vec_capacity, vec_len}
use Rattle.std.specs.Sync.Mutex.{mutex_guard_value}
use Rattle.dine_jobs.specs.declared.edge_value.EdgeValue.{EdgeValue}
use Rattle.dine_jobs.specs.declared.open_value.OpenValue.{OpenValue}
use Rattle.dine_jobs.specs.declared.values.Spare.{Spare}

-- value e is the value of edge e
abbrev pub BelongInOrder : {T : Type 0} → List (EdgeValue T) → Type 0
BelongInOrder values = (e : ℕ) (it : EdgeValue _) → slice_get values e ≡ Some it → it.edge ≡ e

-- the edge of a value that is open
abbrev pub edge_open : {T : Type 0} → OpenValue T → ℕ
edge_open lent = (mutex_guard_value lent.guard).edge

-- the value that is open
abbrev pub value_open : {T : Type 0} → OpenValue T → T
value_open lent = (mutex_guard_value lent.guard).value

-- the lists are empty, and have capacity for this many values
abbrev pub HasRoom : {T : Type 0} → Spare T → ℕ → Type 0
HasRoom spare count = (vec_len spare.numbered ≡ 0) × (vec_len spare.plain ≡ 0) × (count ≤ vec_capacity spare.numbered) × (count ≤ vec_capacity spare.plain)
