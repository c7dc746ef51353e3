-- What a site holds, counted from whole lists of letters. Subtraction stops at 0. In every state that the steps reach
-- no subtraction goes below 0: `forks_counted` and `tokens_counted` of `KeepsStreamsAt` say so. The log in hand means
-- something only if the site holds the fork.
use Rattle.std.specs.Prelude.{◌≡◌, ℕ, zero, suc, true, ◌<◌, length, ◌+◌, ◌-◌, ◌==◌, List, [], ◌∷◌, ◌++◌, if◌then◌else◌}
use Rattle.dine_token.specs.declared.log_entry.Entry.{Entry}
use Rattle.dine_token.specs.declared.log_entry.Entry.TheVariants.{Meal}
use Rattle.dine_token.specs.Log.{meals_of}
use Rattle.dine_graph.specs.Plan.{SeenPlan, lo_of, hi_of}
use Rattle.dine_rules.specs.Letters.{forks_in, requests_in, last_log_or}
use Rattle.dine_rules.specs.Local.{LocalState, Traffic, traffic_at, edge_at, is_eating}

-- How many forks an end holds. The lower end starts with one. Add the Forks taken, and subtract the Forks put. [paper:
-- one fork, arrival]
abbrev pub forks_held : SeenPlan → ℕ → ℕ → Traffic → ℕ
forks_held plan s edge traffic = (if lo_of plan edge == s then 1 else 0) + forks_in traffic.taken - forks_in traffic.put

-- How many tokens an end holds. The higher end starts with one. Add the Requests taken, and subtract the Requests put.
-- [paper: one fork, arrival]
abbrev pub tokens_held : SeenPlan → ℕ → ℕ → Traffic → ℕ
tokens_held plan s edge traffic = (if hi_of plan edge == s then 1 else 0) + requests_in traffic.taken - requests_in traffic.put

-- n meals of a site, numbered from `first`
abbrev pub meals_from : ℕ → ℕ → ℕ → List Entry
meals_from s first zero = []
meals_from s first (suc n) = Meal s first ∷ meals_from s (first + 1) n

-- the log, followed by those meals of the site up to meal `ate` that it lacks
abbrev pub with_meals_to : ℕ → ℕ → List Entry → List Entry
with_meals_to s ate log = log ++ meals_from s (meals_of s log + 1) (ate - meals_of s log)

-- the log in hand: the log of the last Fork taken, or the empty log, followed by the meals of the site since [paper:
-- clean and dirty]
abbrev pub hand : ℕ → ℕ → Traffic → List Entry
hand s ate traffic = with_meals_to s ate (last_log_or [] traffic.taken)

-- how many forks are held at place i of a state
abbrev pub fork_at : SeenPlan → ℕ → LocalState → ℕ → ℕ
fork_at plan s state i = forks_held plan s (edge_at plan s i) (traffic_at state i)

-- how many tokens are held at place i of a state
abbrev pub token_at : SeenPlan → ℕ → LocalState → ℕ → ℕ
token_at plan s state i = tokens_held plan s (edge_at plan s i) (traffic_at state i)

-- the log in hand at place i of a state
abbrev pub hand_at : ℕ → LocalState → ℕ → List Entry
hand_at s state i = hand s state.ate (traffic_at state i)

-- a site that eats holds the forks of all its places [paper: all forks]
abbrev pub EatsWithAll : SeenPlan → ℕ → LocalState → Type 0
EatsWithAll plan s state = is_eating state.phase ≡ true → (i : ℕ) → i < length state.traffic → fork_at plan s state i ≡ 1
