-- Letters, and lists of letters in the order in which they were put or taken. The definitions of the rules use whole
-- lists of letters, and no flags or slots. They compute: laws such as `small_plans_run_as_worked` run small plans with
-- them.
use Rattle.std.specs.Prelude.{ℕ, suc, Bool, true, false, List, [], ◌∷◌}
use Rattle.dine_token.specs.declared.log_entry.Entry.{Entry}
use Rattle.dine_token.specs.Fork.{SeenFork}
use Rattle.dine_rules.specs.declared.letters.Letter.{Letter}
use Rattle.dine_rules.specs.declared.letters.Letter.TheVariants.{Fork, Request, Done, Close}
use Rattle.dine_rules.specs.declared.letters.LetterKind.{LetterKind}
use Rattle.dine_rules.specs.declared.letters.LetterKind.TheVariants as kind

-- the kind of a letter, without its contents
abbrev pub kind_of : Letter → LetterKind
kind_of (Fork fork) = kind.Fork
kind_of (Request edge) = kind.Request
kind_of Done = kind.Done
kind_of Close = kind.Close

-- how many Forks are among the letters
abbrev pub forks_in : List Letter → ℕ
forks_in [] = 0
forks_in (Fork fork ∷ letters) = suc (forks_in letters)
forks_in (Request edge ∷ letters) = forks_in letters
forks_in (Done ∷ letters) = forks_in letters
forks_in (Close ∷ letters) = forks_in letters

-- how many Requests are among the letters
abbrev pub requests_in : List Letter → ℕ
requests_in [] = 0
requests_in (Fork fork ∷ letters) = requests_in letters
requests_in (Request edge ∷ letters) = suc (requests_in letters)
requests_in (Done ∷ letters) = requests_in letters
requests_in (Close ∷ letters) = requests_in letters

-- Done is among the letters
abbrev pub has_done : List Letter → Bool
has_done [] = false
has_done (Fork fork ∷ letters) = has_done letters
has_done (Request edge ∷ letters) = has_done letters
has_done (Done ∷ letters) = true
has_done (Close ∷ letters) = has_done letters

-- Close is among the letters
abbrev pub has_close : List Letter → Bool
has_close [] = false
has_close (Fork fork ∷ letters) = has_close letters
has_close (Request edge ∷ letters) = has_close letters
has_close (Done ∷ letters) = has_close letters
has_close (Close ∷ letters) = true

-- the Forks among the letters, in order
abbrev pub forks_among : List Letter → List SeenFork
forks_among [] = []
forks_among (Fork fork ∷ letters) = fork ∷ forks_among letters
forks_among (Request edge ∷ letters) = forks_among letters
forks_among (Done ∷ letters) = forks_among letters
forks_among (Close ∷ letters) = forks_among letters

-- the value of the last Fork among the letters, or `value`
abbrev pub last_value_or : ℕ → List Letter → ℕ
last_value_or value [] = value
last_value_or value (Fork fork ∷ letters) = last_value_or fork.value letters
last_value_or value (Request edge ∷ letters) = last_value_or value letters
last_value_or value (Done ∷ letters) = last_value_or value letters
last_value_or value (Close ∷ letters) = last_value_or value letters

-- the log of the last Fork among the letters, or `log`
abbrev pub last_log_or : List Entry → List Letter → List Entry
last_log_or log [] = log
last_log_or log (Fork fork ∷ letters) = last_log_or fork.log letters
last_log_or log (Request edge ∷ letters) = last_log_or log letters
last_log_or log (Done ∷ letters) = last_log_or log letters
last_log_or log (Close ∷ letters) = last_log_or log letters

-- how many Dones are among the letters
abbrev pub dones_in : List Letter → ℕ
dones_in [] = 0
dones_in (Fork fork ∷ letters) = dones_in letters
dones_in (Request edge ∷ letters) = dones_in letters
dones_in (Done ∷ letters) = suc (dones_in letters)
dones_in (Close ∷ letters) = dones_in letters

-- how many Closes are among the letters
abbrev pub closes_in : List Letter → ℕ
closes_in [] = 0
closes_in (Fork fork ∷ letters) = closes_in letters
closes_in (Request edge ∷ letters) = closes_in letters
closes_in (Done ∷ letters) = closes_in letters
closes_in (Close ∷ letters) = suc (closes_in letters)
