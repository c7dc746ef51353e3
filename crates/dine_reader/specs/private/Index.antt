-- The names of the sites, with their numbers.
use Rattle.std.specs.Prelude.{◌≡◌, ℕ, List, Option, position}
use Rattle.std.specs.Borrow.{Bor}
use Rattle.std.specs.BTreeMap.{BTreeMap, get_by}
use Rattle.std.specs.Cmp.Lexicographic.{slice_cmp}
use Rattle.std.specs.Ordering.{nat_cmp}
use Rattle.std.specs.Str.{bytes_eq}

-- the number at a name, none if the index does not have it
abbrev pub number_under : BTreeMap (Bor (List ℕ)) ℕ → List ℕ → Option ℕ
number_under index name = get_by (λ k. slice_cmp nat_cmp name k.now) index

-- the index has each name with its first position
abbrev pub IsIndex : BTreeMap (Bor (List ℕ)) ℕ → List (List ℕ) → Type 0
IsIndex index names = (name : List ℕ) → number_under index name ≡ position (bytes_eq name) names
