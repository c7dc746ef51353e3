-- The run that a letter is of. Whoever opens the sites of a run gives it a number, and each letter begins with it.
use Rattle.std.specs.Prelude.{◌≡◌, ◌⊎◌, ℕ, ◌<◌, ◌≤◌, ◌==◌, ◌&&◌, Bool, false, true, List, ◌++◌, drop, filter, length, nat_le, take}
use Rattle.std.specs.Int.{from_le_bytes, to_le_bytes, w64}
use Rattle.dine_wire.specs.Faults.{IsNoNote}
use Rattle.dine_wire.specs.Notes.{bytes_of}
use Rattle.dine_wire.specs.declared.note.Note.{Note}
use Rattle.dine_wire.specs.declared.wire_fault.WireFault.{WireFault}
use Rattle.dine_wire.specs.declared.wire_fault.WireFault.TheVariants.{Length, Kind, Unlawful, Memory, OtherRun}

-- the bytes of a letter of the run: the number of the run in eight bytes, the least first, and then the bytes of the
-- note
abbrev pub bytes_in_run : ℕ → Note → List ℕ
bytes_in_run run note = to_le_bytes w64 run ++ bytes_of note

-- the number in the first eight bytes: that of the run, in a letter
abbrev pub run_of : List ℕ → ℕ
run_of bytes = from_le_bytes w64 (take 8 bytes)

-- the bytes are of the run: there are eight or more, and they begin with its number
abbrev pub is_of_run : ℕ → List ℕ → Bool
is_of_run run bytes = nat_le 8 (length bytes) && (run_of bytes == run)

-- of all that arrives over a link, what is of the run, in order
abbrev pub of_run : ℕ → List (List ℕ) → List (List ℕ)
of_run run arrived = filter (is_of_run run) arrived

-- Why the bytes are those of no letter of the run. `OtherRun`: they begin with another number, whatever follows.
-- `Length`: there are fewer than eight; or they are of the run, and what follows is no note for its length. `Kind`:
-- they are of the run, and the byte that follows is no kind.
abbrev pub IsNoLetter : ℕ → List ℕ → WireFault → Type 0
IsNoLetter run bytes Length = (length bytes < 8) ⊎ ((is_of_run run bytes ≡ true) × IsNoNote (drop 8 bytes) Length)
IsNoLetter run bytes Kind = (is_of_run run bytes ≡ true) × IsNoNote (drop 8 bytes) Kind
IsNoLetter run bytes OtherRun = (8 ≤ length bytes) × (is_of_run run bytes ≡ false)
IsNoLetter run bytes Unlawful = ⊥
IsNoLetter run bytes Memory = ⊥
