-- A fork as contracts see it, in a hand, in a letter or in a meal.
use Rattle.std.specs.Prelude.{◌≡◌, ◌==◌, ◌⊎◌, ℕ, ◌+◌, ◌*◌, ◌<◌, ◌≤◌, true, List, [], ◌∷◌, ◌++◌, if◌then◌else◌}
use Rattle.dine_token.specs.declared.log_entry.Entry.{Entry}
use Rattle.dine_token.specs.declared.log_entry.Entry.TheVariants.{Meal, Move}
use Rattle.dine_token.specs.declared.act.Act.{Act}
use Rattle.dine_token.specs.declared.limits.TheConstants.{MAX_JOBS, MAX_NUMBER}
use Rattle.dine_token.specs.Values.{value_after_act}
use Rattle.dine_token.specs.Log.{is_dirty, location_of, meals_of}
use Rattle.dine_token.specs.Lawful.{IsLawful, due_at}

-- a fork: its edge, its ends and the meals due to them, each as (lower, higher), its log, and the value it carries;
-- `IsFork` has the limits
pub record SeenFork : Type 0 where
  pub edge : ℕ
  pub ends : ℕ × ℕ
  pub due : ℕ × ℕ
  pub log : List Entry
  pub value : ℕ

-- the fork that is read past the end of a list
abbrev pub no_fork : SeenFork
no_fork = record { edge = 0; ends = (0, 0); due = (0, 0); log = []; value = 0 }

-- the site is an end of the fork's edge [paper: one fork]
abbrev pub IsEnd : SeenFork → ℕ → Type 0
IsEnd fork site = (site ≡ fork.ends.0) ⊎ (site ≡ fork.ends.1)

-- the end where the fork is, or to which it is on its way [paper: one fork]
abbrev pub location : SeenFork → ℕ
location fork = location_of fork.ends.0 fork.log

-- the end other than this one; for a site that is no end it is the lower one, and no clause asks for that
abbrev pub other_end : SeenFork → ℕ → ℕ
other_end fork site = if site == fork.ends.0 then fork.ends.1 else fork.ends.0

-- the fork after a Move to an end, written behind its log [paper: release rule]
abbrev pub after_move : ℕ → SeenFork → SeenFork
after_move to fork = record fork { log = fork.log ++ Move to ∷ [] }

-- the fork after meal k of a site, written behind its log, and after the act of that meal [paper: clean and dirty]
abbrev pub after_meal : ℕ → ℕ → Act → SeenFork → SeenFork
after_meal site k act fork = record fork { log = fork.log ++ Meal site k ∷ []; value = value_after_act act fork.value }

-- the fork was eaten with since it arrived, or has not moved yet [paper: clean and dirty]
abbrev pub IsDirty : SeenFork → Type 0
IsDirty fork = is_dirty fork.log ≡ true

-- What is true of every fork: the lower end is below the higher, at most 4,294,967,295 meals are due to each, the log
-- is lawful, and the value is at most 1,000,000 times one more than the meals of the log.
pub record IsFork (fork : SeenFork) : Type 0 where
  pub ordered : fork.ends.0 < fork.ends.1
  pub lower_due : fork.due.0 ≤ MAX_JOBS
  pub higher_due : fork.due.1 ≤ MAX_JOBS
  pub lawful : IsLawful fork.ends fork.due fork.log
  pub bounded : fork.value ≤ MAX_NUMBER * (meals_of fork.ends.0 fork.log + meals_of fork.ends.1 fork.log + 1)

-- The fork may be sent to an end: it is dirty, that end is the one where it is not, and has meals left. This says
-- nothing of the token, nor of which site eats. [paper: release rule]
pub record MayMove (to : ℕ) (fork : SeenFork) : Type 0 where
  pub dirty : is_dirty fork.log ≡ true
  pub to_other_end : to ≡ other_end fork (location fork)
  pub hungry : meals_of to fork.log < due_at fork.ends fork.due to

-- Meal k of the site may be eaten with the fork: the fork is there, k is the site's next meal, and at most what is due.
-- This says nothing of hunger, nor of other forks. [paper: all forks]
pub record MayEat (site k : ℕ) (fork : SeenFork) : Type 0 where
  pub held : location fork ≡ site
  pub next : meals_of site fork.log + 1 ≡ k
  pub within : k ≤ due_at fork.ends fork.due site
