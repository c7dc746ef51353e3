-- The periods of a log: the stays of the fork at its two ends. That they give back a lawful log, and are at most one
-- more than the meals due, is the law `periods_tell_the_log`.
use Rattle.std.specs.Prelude.{ℕ, ◌+◌, List, [], ◌∷◌, ◌++◌, zero, suc}
use Rattle.dine_token.specs.declared.log_entry.Entry.{Entry}
use Rattle.dine_token.specs.declared.log_entry.Entry.TheVariants.{Meal, Move}
use Rattle.dine_token.specs.declared.log_period.Period.{Period}
use Rattle.dine_token.specs.Log.{meals_of}

-- the number of meals before the first Move
abbrev pub meals_until_move : List Entry → ℕ
meals_until_move [] = 0
meals_until_move (Meal site k ∷ log) = suc (meals_until_move log)
meals_until_move (Move to ∷ log) = 0

-- a period for each Move of a log: it is at the site to which the Move goes, its first meal is one more than that
-- site's meals before, and its meals are those up to the next Move. `before` has the entries before these.
abbrev pub moved_periods : List Entry → List Entry → List Period
moved_periods before [] = []
moved_periods before (Meal site k ∷ log) = moved_periods (before ++ Meal site k ∷ []) log
moved_periods before (Move to ∷ log) = record { site = to; first = meals_of to before + 1; count = meals_until_move log } ∷ moved_periods (before ++ Move to ∷ []) log

-- the periods of a log: one at the start, whose first meal is meal 1, and one for each Move
abbrev pub periods_of : ℕ → List Entry → List Period
periods_of start log = record { site = start; first = 1; count = meals_until_move log } ∷ moved_periods [] log

-- the meals first, first + 1, first + 2, .. of a site: n of them
abbrev pub meals_from : ℕ → ℕ → ℕ → List Entry
meals_from site first zero = []
meals_from site first (suc n) = Meal site first ∷ meals_from site (first + 1) n

-- the meals of a period
abbrev pub meals_in : Period → List Entry
meals_in period = meals_from period.site period.first period.count

-- the entries of the periods behind the first: the Move and the meals of each
abbrev pub moved_entries : List Period → List Entry
moved_entries [] = []
moved_entries (period ∷ periods) = Move period.site ∷ meals_in period ++ moved_entries periods

-- the log that has these periods
abbrev pub entries_of : List Period → List Entry
entries_of [] = []
entries_of (period ∷ periods) = meals_in period ++ moved_entries periods
