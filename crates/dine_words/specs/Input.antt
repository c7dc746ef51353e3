-- What reading the input does to the bytes that a reader has left. They are known only of readers in memory; of other
-- readers these definitions say nothing. `IsAtEnd` and `Appends` are the standard library's.
use Rattle.std.specs.Prelude.{◌≤◌, ℕ, List, Option, length}
use Rattle.std.specs.Io.KnownBytes.{Consumes}

-- the greatest number of bytes of an input: 8 MiB
abbrev pub input_limit : ℕ
input_limit = 8_388_608

-- if the bytes are known, at most n of them are taken from their front
abbrev pub TakesAtMost : ℕ → Option (List ℕ) → Option (List ℕ) → Type 0
TakesAtMost n old new = (bs : List ℕ) × Consumes old new bs × (length bs ≤ n)
