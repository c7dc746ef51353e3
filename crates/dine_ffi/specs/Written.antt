-- What calls write into the caller's memory.
use Rattle.std.specs.Prelude.{◌≡◌, ◌≤◌, ℕ, ℤ, List, [], ◌∷◌, ◌++◌, drop, length, pos, take}
use Rattle.dine_token.specs.declared.log_period.Period.{Period}
use Rattle.dine_token.specs.Fork.{SeenFork}
use Rattle.dine_token.specs.Periods.{periods_of}
use Rattle.dine_rules.specs.declared.letters.Letter.{Letter}
use Rattle.dine_wire.specs.Carried.{letter_bytes}

-- the values over the front of `out`, as many as it has; the rest of `out` stays
abbrev pub over_front : List ℕ → List ℕ → List ℕ
over_front values out = take (length out) values ++ drop (length values) out

-- the numbers of periods, three for each: the site, the number of its first meal, and the number of its meals
abbrev pub period_numbers : List Period → List ℕ
period_numbers [] = []
period_numbers (period ∷ periods) = period.site ∷ period.first ∷ period.count ∷ period_numbers periods

-- the periods of the fork's log
abbrev pub fork_periods : SeenFork → List Period
fork_periods fork = periods_of fork.ends.0 fork.log

-- The number of periods of the fork's log is returned, and their numbers are over the front of `out`.
pub record ArePeriods (fork : SeenFork) (old new : List ℕ) (result : ℤ) : Type 0 where
  pub number : result ≡ pos (length (fork_periods fork))
  pub numbers : new ≡ over_front (period_numbers (fork_periods fork)) old

-- The number of the letter's bytes is returned. They are at the front of `out`, which has at least 29, and the rest of
-- `out` is as before.
pub record AreWritten (run : ℕ) (letter : Letter) (edge : ℕ) (old new : List ℕ) (result : ℤ) : Type 0 where
  pub enough : 29 ≤ length old
  pub number : result ≡ pos (length (letter_bytes run edge letter))
  pub bytes : new ≡ letter_bytes run edge letter ++ drop (length (letter_bytes run edge letter)) old
