-- Letters on their way, with the moments at which they were put.
use Rattle.std.specs.Prelude.{ℕ, List, map}
use Rattle.dine_rules.specs.declared.letters.Letter.{Letter}
use Rattle.dine_link.specs.declared.stamped.Stamped.{Stamped}

-- the letters, without their moments
abbrev pub letters_in : List Stamped → List Letter
letters_in stamped = map (λ one. one.letter) stamped

-- the moments, without the letters
abbrev pub moments_in : List Stamped → List ℕ
moments_in stamped = map (λ one. one.stamp.at) stamped
