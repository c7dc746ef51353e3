-- Which logs the rules of Chandy and Misra allow. The Moves cut the log into the stays of the fork at its two ends. A
-- log is of one fork: it says nothing of the token and of other forks, nor that each due meal was eaten. The empty log
-- is lawful, and a log may begin with a Move, since the fork is dirty at the start. A lawful log has at most twice as
-- many entries as meals are due: the law `lawful_log_is_bounded`.
use Rattle.std.specs.Prelude.{◌≡◌, ◌==◌, ℕ, ◌+◌, ◌<◌, ◌≤◌, List, [], ◌∷◌, ◌++◌, zero, suc, if◌then◌else◌}
use Rattle.dine_token.specs.declared.log_entry.Entry.{Entry}
use Rattle.dine_token.specs.declared.log_entry.Entry.TheVariants.{Meal, Move}
use Rattle.dine_token.specs.Log.{location_of, numbers_of, meals_of, destinations_of, moves_of}

-- one, other, one, other, ..: n of them
abbrev pub in_turn : ℕ → ℕ → ℕ → List ℕ
in_turn one other zero = []
in_turn one other (suc n) = one ∷ in_turn other one n

-- first, first + 1, first + 2, ..: n of them
abbrev pub count_from : ℕ → ℕ → List ℕ
count_from first zero = []
count_from first (suc n) = first ∷ count_from (first + 1) n

-- the number of meals due to an end in all: ends and their due numbers are given as (lower, higher)
abbrev pub due_at : ℕ × ℕ → ℕ × ℕ → ℕ → ℕ
due_at ends due end = if end == ends.0 then due.0 else due.1

-- A lawful log of one fork, by its ends and the meals due to them. It does not say that a Move was asked for.
-- [paper: release rule, clean and dirty]
pub record IsLawful (ends due : ℕ × ℕ) (log : List Entry) : Type 0 where
  -- the fork starts at its lower end, and moves to the higher, the lower, the higher, .. in turn [paper: release rule]
  pub alternates : destinations_of log ≡ in_turn ends.1 ends.0 (moves_of log)
  -- each meal is one of the end where the fork is then [paper: all forks]
  pub eaten_where_held : (before after : List Entry) (site k : ℕ) → log ≡ before ++ Meal site k ∷ after → site ≡ location_of ends.0 before
  -- between one Move and the next the fork was eaten with: no two Moves are side by side [paper: clean and dirty]
  pub used_before_sent : (before after : List Entry) (one next : ℕ) → log ≡ before ++ Move one ∷ Move next ∷ after → ⊥
  -- the meals of each end, read over the whole log, are numbered 1, 2, 3, .. with no gap, up to at most its due
  pub lower_numbered : numbers_of ends.0 log ≡ count_from 1 (meals_of ends.0 log)
  pub higher_numbered : numbers_of ends.1 log ≡ count_from 1 (meals_of ends.1 log)
  pub lower_within : meals_of ends.0 log ≤ due.0
  pub higher_within : meals_of ends.1 log ≤ due.1
  -- before each Move to an end, the log has fewer meals of that end than are due [paper: request rule]
  pub sent_to_hungry : (before after : List Entry) (to : ℕ) → log ≡ before ++ Move to ∷ after → meals_of to before < due_at ends due to
