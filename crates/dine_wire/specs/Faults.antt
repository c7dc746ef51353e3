-- The faults of bytes: when each is returned, and their numbers.
use Rattle.std.specs.Prelude.{◌≡◌, ◌≢◌, ◌⊎◌, ℕ, ◌<◌, ◌≤◌, ◌==◌, List, length, slice_index, if◌then◌else◌}
use Rattle.dine_wire.specs.declared.wire_fault.WireFault.{WireFault}
use Rattle.dine_wire.specs.declared.wire_fault.WireFault.TheVariants.{Length, Kind, Unlawful, Memory, OtherRun}

-- the number of each fault, 1 to 5
abbrev pub number_of : WireFault → ℕ
number_of Length = 1
number_of Kind = 2
number_of Unlawful = 3
number_of Memory = 4
number_of OtherRun = 5

-- the first byte of a note: 1 for a Fork, 2 to 4 for the other letters
abbrev pub IsKind : ℕ → Type 0
IsKind kind = (1 ≤ kind) × (kind ≤ 4)

-- the number of bytes of a note of this kind
abbrev pub size_of_kind : ℕ → ℕ
size_of_kind kind = if kind == 1 then 21 else 5

-- Why the bytes are those of no note. `Length`: there are none, or the first is a kind whose notes have another number
-- of bytes. `Kind`: the first is no kind. The bytes alone give no other cause.
abbrev pub IsNoNote : List ℕ → WireFault → Type 0
IsNoNote bytes Length = (length bytes ≡ 0) ⊎ (IsKind (slice_index bytes 0) × (length bytes ≢ size_of_kind (slice_index bytes 0)))
IsNoNote bytes Kind = (0 < length bytes) × (IsKind (slice_index bytes 0) → ⊥)
IsNoNote bytes Unlawful = ⊥
IsNoNote bytes Memory = ⊥
IsNoNote bytes OtherRun = ⊥
