-- The place of Close in a list of letters.
use Rattle.std.specs.Prelude.{Bool, true, false, List, [], ◌∷◌}
use Rattle.dine_rules.specs.declared.letters.Letter.{Letter}
use Rattle.dine_rules.specs.declared.letters.Letter.TheVariants.{Close}

-- the letter is Close
abbrev pub is_close : Letter → Bool
is_close Close = true
is_close _ = false

-- the last letter is Close
abbrev pub ends_in_close : List Letter → Bool
ends_in_close [] = false
ends_in_close (letter ∷ []) = is_close letter
ends_in_close (letter ∷ next ∷ letters) = ends_in_close (next ∷ letters)
