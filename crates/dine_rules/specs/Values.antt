-- The value of an edge: a number that its two ends share. Each meal of an end changes it by the act of its job. The
-- value goes with the fork. There are two ways to compute it, from the Forks that a site took and the meals that it
-- ate, and from a log. In every world that events reach the two agree.
use Rattle.std.specs.List.{list_all}
use Rattle.std.specs.Prelude.{◌≡◌, ℕ, zero, suc, ◌+◌, ◌-◌, ◌==◌, Bool, true, false, List, [], ◌∷◌, slice_get, Some}
use Rattle.dine_token.specs.declared.log_entry.Entry.{Entry}
use Rattle.dine_token.specs.declared.log_entry.Entry.TheVariants.{Meal, Move}
use Rattle.dine_token.specs.Fork.{SeenFork}
use Rattle.dine_token.specs.Log.{meals_of}
use Rattle.dine_token.specs.declared.act.Act.{Act}
use Rattle.dine_token.specs.declared.act.Act.TheVariants.{Add, Set}
use Rattle.dine_token.specs.Lawful.{count_from}
use Rattle.dine_token.specs.Values.{amount_of, value_after_act}
use Rattle.dine_graph.specs.Plan.{SeenPlan, SeenSite, SeenJob, act_of, lo_of, hi_of, value_of}
use Rattle.dine_rules.specs.declared.letters.Letter.{Letter}
use Rattle.dine_rules.specs.declared.letters.Letter.TheVariants.{Fork}
use Rattle.dine_rules.specs.Holdings.{hand}
use Rattle.dine_rules.specs.Letters.{forks_among, last_log_or, last_value_or}
use Rattle.dine_rules.specs.Local.{Traffic}

-- a value after n meals of a site, numbered from `first`
abbrev pub after_meals : SeenPlan → ℕ → ℕ → ℕ → ℕ → ℕ
after_meals plan s first zero value = value
after_meals plan s first (suc n) value = after_meals plan s (first + 1) n (value_after_act (act_of plan s first) value)

-- the value that goes with a log, after those meals of the site up to meal `ate` that the log lacks
abbrev pub value_to : SeenPlan → ℕ → ℕ → List Entry → ℕ → ℕ
value_to plan s ate log value = after_meals plan s (meals_of s log + 1) (ate - meals_of s log) value

-- the value in hand: the value of the last Fork taken, or the value of the plan, after the meals of the site since
abbrev pub hand_value : SeenPlan → ℕ → ℕ → ℕ → Traffic → ℕ
hand_value plan s edge ate traffic = value_to plan s ate (last_log_or [] traffic.taken) (last_value_or (value_of plan edge) traffic.taken)

-- a value after all meals of a log, in order; a Move changes nothing
abbrev pub value_along : SeenPlan → List Entry → ℕ → ℕ
value_along plan [] value = value
value_along plan (Meal s k ∷ log) value = value_along plan log (value_after_act (act_of plan s k) value)
value_along plan (Move to ∷ log) value = value_along plan log value

-- the value that a log gives to an edge: the value of the plan, after all meals of the log
abbrev pub value_by : SeenPlan → ℕ → List Entry → ℕ
value_by plan edge log = value_along plan log (value_of plan edge)

-- an act that adds
abbrev pub is_add : Act → Bool
is_add (Add amount) = true
is_add (Set amount) = false

-- no job of the plan sets a value: each adds
abbrev pub has_no_set : SeenPlan → Bool
has_no_set plan = list_all (λ (site : SeenSite). list_all (λ (job : SeenJob). is_add job.act) site.jobs) plan.sites

-- the sum of the amounts of these meals of a site
abbrev pub amounts_of : SeenPlan → ℕ → List ℕ → ℕ
amounts_of plan s [] = 0
amounts_of plan s (k ∷ numbers) = amount_of (act_of plan s k) + amounts_of plan s numbers

-- if all jobs add: the value of an edge after these numbers of meals of its lower and its higher end, in any order
abbrev pub value_by_amounts : SeenPlan → ℕ → ℕ → ℕ → ℕ
value_by_amounts plan edge low_ate high_ate = value_of plan edge + amounts_of plan (lo_of plan edge) (count_from 1 low_ate) + amounts_of plan (hi_of plan edge) (count_from 1 high_ate)

-- each Fork among the letters has the value that its log gives
abbrev pub HaveValuesOfLogs : SeenPlan → ℕ → List Letter → Type 0
HaveValuesOfLogs plan edge letters = (k : ℕ) (fork : SeenFork) → slice_get letters k ≡ Some (Fork fork) → fork.value ≡ value_by plan edge fork.log

-- Each Fork that the end put has the value that its log gives, and so has the fork in its hand.
pub record KeepsValuesOfLogs (plan : SeenPlan) (s edge ate : ℕ) (traffic : Traffic) : Type 0 where
  pub put : HaveValuesOfLogs plan edge traffic.put
  pub in_hand : hand_value plan s edge ate traffic ≡ value_by plan edge (hand s ate traffic)

-- The k-th Fork taken, from 0, exists. The value of the given fork is the value of that Fork, after the meals of the
-- site that the log of the given fork has beyond that Fork's log.
pub record CarriesValue (plan : SeenPlan) (s : ℕ) (taken : List SeenFork) (k : ℕ) (fork : SeenFork) : Type 0 where
  pub before : SeenFork
  pub is_taken : slice_get taken k ≡ Some before
  pub carries : fork.value ≡ value_to plan s (meals_of s fork.log) before.log before.value

-- The values of the Forks that a site puts at an edge are chained, as `IsChained` says of their logs. The first Fork
-- from the lower end starts from the value of the plan. Each other Fork starts from the value of the Fork taken before
-- it. From there the value is changed by the meals of the site since. Nothing is required of the values that arrive.
pub record AreValuesChained (plan : SeenPlan) (s edge : ℕ) (traffic : Traffic) : Type 0 where
  pub first : (lo_of plan edge == s) ≡ true → (fork : SeenFork) → slice_get (forks_among traffic.put) 0 ≡ Some fork → fork.value ≡ value_to plan s (meals_of s fork.log) [] (value_of plan edge)
  pub next : (lo_of plan edge == s) ≡ true → (k : ℕ) (fork : SeenFork) → slice_get (forks_among traffic.put) (k + 1) ≡ Some fork → CarriesValue plan s (forks_among traffic.taken) k fork
  pub answers : (lo_of plan edge == s) ≡ false → (k : ℕ) (fork : SeenFork) → slice_get (forks_among traffic.put) k ≡ Some fork → CarriesValue plan s (forks_among traffic.taken) k fork
