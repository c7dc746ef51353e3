-- The log of a fork: what was done with it, oldest entry first.
use Rattle.std.specs.Prelude.{◌==◌, ℕ, Bool, true, false, List, [], ◌∷◌, length, if◌then◌else◌}
use Rattle.dine_token.specs.declared.log_entry.Entry.{Entry}
use Rattle.dine_token.specs.declared.log_entry.Entry.TheVariants.{Meal, Move}

-- the fork is dirty: its log does not end in a Move; the empty log is dirty [paper: clean and dirty, start]
abbrev pub is_dirty : List Entry → Bool
is_dirty [] = true
is_dirty (Meal site k ∷ log) = is_dirty log
is_dirty (Move to ∷ []) = false
is_dirty (Move to ∷ entry ∷ log) = is_dirty (entry ∷ log)

-- where the last Move went, or `start` if there is none; the fork is there, or on its way there [paper: one fork]
abbrev pub location_of : ℕ → List Entry → ℕ
location_of start [] = start
location_of start (Meal site k ∷ log) = location_of start log
location_of start (Move to ∷ log) = location_of to log

-- the numbers of a site's meals, in order
abbrev pub numbers_of : ℕ → List Entry → List ℕ
numbers_of site [] = []
numbers_of site (Meal eater k ∷ log) = if eater == site then k ∷ numbers_of site log else numbers_of site log
numbers_of site (Move to ∷ log) = numbers_of site log

-- the number of meals of a site in the log
abbrev pub meals_of : ℕ → List Entry → ℕ
meals_of site log = length (numbers_of site log)

-- where the Moves went, in order
abbrev pub destinations_of : List Entry → List ℕ
destinations_of [] = []
destinations_of (Meal site k ∷ log) = destinations_of log
destinations_of (Move to ∷ log) = to ∷ destinations_of log

-- the number of Moves in the log
abbrev pub moves_of : List Entry → ℕ
moves_of log = length (destinations_of log)
