-- Which letters a site waits for if it can do nothing by itself.
use Rattle.std.specs.Prelude.{ℕ, ◌-◌, nat_le, Bool, true, false, List, slice_index_or}
use Rattle.dine_rules.specs.declared.letters.LetterKind.{LetterKind}
use Rattle.dine_rules.specs.declared.letters.LetterKind.TheVariants as kind

-- The site waits for a Request at each marked place, where it would give the fork. It waits for a Fork if it lacks only
-- one: `forks` is the number that it lacks. It waits for each Done and each Close.
pub record SeenWants : Type 0 where
  pub requests : List Bool
  pub forks : ℕ

-- the site waits for a letter of this kind at the place
abbrev pub is_wanted : SeenWants → ℕ → LetterKind → Bool
is_wanted wants i kind.Request = slice_index_or wants.requests i false
is_wanted wants i kind.Fork = nat_le wants.forks 1
is_wanted wants i kind.Done = true
is_wanted wants i kind.Close = true

-- what the site waits for after a letter of this kind, for which it does not wait, has arrived and is not taken; if it
-- is a Fork, the site lacks one fewer
abbrev pub still_wanted : SeenWants → LetterKind → SeenWants
still_wanted wants kind.Request = wants
still_wanted wants kind.Fork = record wants { forks = wants.forks - 1 }
still_wanted wants kind.Done = wants
still_wanted wants kind.Close = wants
