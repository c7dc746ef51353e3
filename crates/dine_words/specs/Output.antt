-- What writing a text does to the bytes that a writer has. They are known only of writers in memory; of other writers
-- this says nothing.
use Rattle.std.specs.Prelude.{ℕ, List, Option, take}
use Rattle.std.specs.Io.KnownBytes.{Appends}

-- if the bytes are known, a prefix of the text is added behind them
abbrev pub WritesPrefix : Option (List ℕ) → Option (List ℕ) → List ℕ → Type 0
WritesPrefix old new text = (n : ℕ) × Appends old new (take n text)
