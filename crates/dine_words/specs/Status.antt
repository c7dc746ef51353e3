-- How the program ends.
use Rattle.std.specs.Prelude.{ℕ}
use Rattle.dine_words.specs.declared.status.Status.{Status}
use Rattle.dine_words.specs.declared.status.Status.TheVariants.{Success, Usage, PlanRefused, RunFailed, OutOfMemory, InputOutput}

-- the number of each status: 0, or 2 to 6
abbrev pub number_of : Status → ℕ
number_of Success = 0
number_of Usage = 2
number_of PlanRefused = 3
number_of RunFailed = 4
number_of OutOfMemory = 5
number_of InputOutput = 6
