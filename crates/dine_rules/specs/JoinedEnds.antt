-- The two ends of an edge, by whole lists alone: what each end put and took, and how many meals it ate. That is what
-- threads leave when they have joined. The definitions do not ask whether an order of events leads to these lists, nor
-- whether a letter that was put will be taken.
use Rattle.std.specs.Prelude.{◌≡◌, ℕ, ◌+◌, ◌<◌, ◌≤◌, List, [], length, slice_get, Option, Some, if◌then◌else◌, ◌==◌}
use mathlib.Core.List.{IsPrefix}
use Rattle.dine_token.specs.declared.log_entry.Entry.{Entry}
use Rattle.dine_token.specs.Fork.{SeenFork}
use Rattle.dine_token.specs.Log.{meals_of, numbers_of}
use Rattle.dine_token.specs.Lawful.{IsLawful, count_from}
use Rattle.dine_graph.specs.Plan.{SeenPlan, edges_of, job_count, lo_of, hi_of}
use Rattle.dine_rules.specs.declared.letters.Letter.{Letter}
use Rattle.dine_rules.specs.Letters.{forks_among, requests_in, last_log_or}
use Rattle.dine_rules.specs.Local.{Traffic, traffic_at, edge_at, neighbour_at}
use Rattle.dine_rules.specs.Holdings.{forks_held, hand}
use Rattle.dine_rules.specs.Streams.{AreLawfulForks, IsChained}
use Rattle.dine_rules.specs.Values.{AreValuesChained}
use Rattle.dine_rules.specs.World.{WorldState, state_of, place_of}

-- Place i of site s and place j of the site `other` are the two ends of one edge.
pub record AreEndsOfEdge (plan : SeenPlan) (s i other j : ℕ) : Type 0 where
  pub within : i < length (edges_of plan s)
  pub within_there : j < length (edges_of plan other)
  pub same_edge : edge_at plan other j ≡ edge_at plan s i
  pub across : neighbour_at plan s i ≡ other
  pub back : neighbour_at plan other j ≡ s

-- What each end took is a prefix of what the other put.
pub record AreLinked (here there : Traffic) : Type 0 where
  pub comes : IsPrefix here.taken there.put
  pub goes : IsPrefix there.taken here.put

-- The Forks that each end took are the first Forks that the other end put, in order. That holds also if a letter
-- between them was refused.
pub record AreForksLinked (here there : Traffic) : Type 0 where
  pub comes : (k : ℕ) (fork : SeenFork) → slice_get (forks_among here.taken) k ≡ Some fork → slice_get (forks_among there.put) k ≡ Some fork
  pub goes : (k : ℕ) (fork : SeenFork) → slice_get (forks_among there.taken) k ≡ Some fork → slice_get (forks_among here.put) k ≡ Some fork

-- Both links are empty: each end took all that the other end put.
pub record AreWhollyTaken (here there : Traffic) : Type 0 where
  pub comes : here.taken ≡ there.put
  pub goes : there.taken ≡ here.put

-- the next letter: the first that the other end put and this end did not take
abbrev pub next_between : Traffic → Traffic → Option Letter
next_between here there = slice_get there.put (length here.taken)

-- in a world, what the other end of a place put and took
abbrev pub traffic_across : SeenPlan → WorldState → ℕ → ℕ → Traffic
traffic_across plan world s i = traffic_at (state_of world (neighbour_at plan s i)) (place_of plan (neighbour_at plan s i) (edge_at plan s i))

-- An end accounts for the fork. The Forks that it put are forks of the edge, with lawful logs, and their logs and
-- values are chained. It ate at most the meals that are due to it. It ate at least the meals of its own in the last
-- Fork that it took.
pub record AccountsForFork (plan : SeenPlan) (s edge ate : ℕ) (traffic : Traffic) : Type 0 where
  pub chained : IsChained plan s edge ate traffic
  pub values : AreValuesChained plan s edge traffic
  pub put_forks : AreLawfulForks plan edge traffic.put
  pub ate_within : ate ≤ job_count plan s
  pub last_within : meals_of s (last_log_or [] traffic.taken) ≤ ate

-- An end accounts for the token: it put no more Requests than it had tokens. It had those that it took, and the higher
-- end started with one.
abbrev pub AccountsForToken : SeenPlan → ℕ → ℕ → Traffic → Type 0
AccountsForToken plan s edge traffic = requests_in traffic.put ≤ (if hi_of plan edge == s then 1 else 0) + requests_in traffic.taken

-- A lawful log that has the meals of each end, from 1 to the number that the end ate, each once.
pub record IsWholeLog (plan : SeenPlan) (edge low_ate high_ate : ℕ) (log : List Entry) : Type 0 where
  pub lawful : IsLawful (lo_of plan edge, hi_of plan edge) (job_count plan (lo_of plan edge), job_count plan (hi_of plan edge)) log
  pub lower_count : meals_of (lo_of plan edge) log ≡ low_ate
  pub higher_count : meals_of (hi_of plan edge) log ≡ high_ate
  pub lower_each_once : numbers_of (lo_of plan edge) log ≡ count_from 1 low_ate
  pub higher_each_once : numbers_of (hi_of plan edge) log ≡ count_from 1 high_ate

-- Exactly one of the two ends holds the fork, and the log in its hand is whole. [paper: one fork]
pub record HaveOneWholeFork (plan : SeenPlan) (edge low_ate high_ate : ℕ) (low high : Traffic) : Type 0 where
  pub one_fork : forks_held plan (lo_of plan edge) edge low + forks_held plan (hi_of plan edge) edge high ≡ 1
  pub at_lower : forks_held plan (lo_of plan edge) edge low ≡ 1 → IsWholeLog plan edge low_ate high_ate (hand (lo_of plan edge) low_ate low)
  pub at_higher : forks_held plan (hi_of plan edge) edge high ≡ 1 → IsWholeLog plan edge low_ate high_ate (hand (hi_of plan edge) high_ate high)
