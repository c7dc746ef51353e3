use Rattle.std.proofs.Common.{◌≡◌, ℕ, List, take}
use Rattle.std.specs.List.{position}
use Rattle.std.specs.Str.{bytes_eq}
use Rattle.dine_reader.specs.private.Index.{number_under}
use Rattle.dine_reader.proofs.ReadLemmas.{names_in}
use Rattle.dine_reader.proofs.drafts.index_of.Given as goal

abbrev pub invariant-loop-i : goal.invariant-loop-i
invariant-loop-i l = (q : List ℕ) → number_under l.index q ≡ position (bytes_eq q) (take l.i (names_in l.sites))
