-- What the bytes of a letter report, and the bytes.
use Rattle.std.specs.Prelude.{ℕ, ◌<◌, ◌^◌, ◌%◌, List, ◌∷◌, ◌++◌}
use Rattle.std.specs.Int.{to_le_bytes, w32, w64}
use Rattle.dine_token.specs.Fork.{SeenFork, location, other_end}
use Rattle.dine_token.specs.Log.{meals_of, moves_of}
use Rattle.dine_rules.specs.declared.letters.Letter.{Letter}
use Rattle.dine_rules.specs.declared.letters.Letter.TheVariants as letter
use Rattle.dine_wire.specs.declared.note.Note.{Note}
use Rattle.dine_wire.specs.declared.note.Report.{Report}
use Rattle.dine_wire.specs.declared.note.Report.TheVariants.{Fork, Request, Done, Close}
use Rattle.dine_wire.specs.declared.note.ForkNote.{ForkNote}

-- A number of Moves as a note has it, in four bytes: modulo 2^32. Whoever gets the note knows the number itself, since
-- it is one more than that of the fork that was kept.
abbrev pub moves_noted : ℕ → ℕ
moves_noted moves = moves % 2 ^ 32

-- what its sender did with a fork that was sent: the number of Moves in its log, modulo 2^32, the number of the
-- sender's meals in it, and its value
abbrev pub fork_note : SeenFork → ForkNote
fork_note fork = record { moves = moves_noted (moves_of fork.log); ate = meals_of (other_end fork (location fork)) fork.log; value = fork.value }

-- what the bytes of a letter report of it, beside its edge
abbrev pub report_of : Letter → Report
report_of (letter.Fork fork) = Fork (fork_note fork)
report_of (letter.Request edge) = Request
report_of letter.Done = Done
report_of letter.Close = Close

-- the bytes of a Fork's note, if these are the bytes of its edge: the kind, the edge, the number of Moves in four
-- bytes, the sender's meals in four, and the value in eight
abbrev pub fork_bytes : List ℕ → ForkNote → List ℕ
fork_bytes edge fork = 1 ∷ edge ++ to_le_bytes w32 fork.moves ++ to_le_bytes w32 fork.ate ++ to_le_bytes w64 fork.value

-- The bytes of what is reported of a letter, if these are the bytes of its edge. The first is the kind: 1 for a Fork, 2
-- for a Request, 3 for Done, 4 for Close. The edge follows, and of a Fork its numbers. Of each number the least byte is
-- first.
abbrev pub bytes_with : List ℕ → Report → List ℕ
bytes_with edge (Fork fork) = fork_bytes edge fork
bytes_with edge Request = 2 ∷ edge
bytes_with edge Done = 3 ∷ edge
bytes_with edge Close = 4 ∷ edge

-- the bytes of a note: the edge has four
abbrev pub bytes_of : Note → List ℕ
bytes_of note = bytes_with (to_le_bytes w32 note.edge) note.report

-- the numbers of what a letter reports fit into their bytes
abbrev pub IsReportInBytes : Report → Type 0
IsReportInBytes (Fork fork) = (fork.moves < 2 ^ 32) × (fork.ate < 2 ^ 32) × (fork.value < 2 ^ 64)
IsReportInBytes Request = Unit {0}
IsReportInBytes Done = Unit {0}
IsReportInBytes Close = Unit {0}

-- the numbers of the note fit into their bytes
abbrev pub IsInBytes : Note → Type 0
IsInBytes note = (note.edge < 2 ^ 32) × IsReportInBytes note.report
