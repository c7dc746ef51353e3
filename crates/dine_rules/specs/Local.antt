-- The state of one site, by what it has put and taken. A place is a position in the list of the site's edges, from 0.
use Rattle.std.specs.Prelude.{ℕ, ◌==◌, ◌||◌, Bool, true, false, List, [], map, slice_index_or}
use Rattle.dine_graph.specs.Plan.{SeenPlan, edges_of, job_count, job_of, other_of}
use Rattle.dine_rules.specs.declared.letters.Letter.{Letter}
use Rattle.dine_rules.specs.declared.phase.Phase.{Phase}
use Rattle.dine_rules.specs.declared.phase.Phase.TheVariants.{Thinking, Hungry, Eating}

-- all letters that an end has put, and all that it has taken, each in order
pub record Traffic : Type 0 where
  pub put : List Letter
  pub taken : List Letter

-- A site: its phase, the number of meals that it began, whether it has to quit, whether it has quit, and its traffic at
-- each place, in the order of its edges. [paper: neighbours]
pub record LocalState : Type 0 where
  pub phase : Phase
  pub ate : ℕ
  pub must_quit : Bool
  pub has_quit : Bool
  pub traffic : List Traffic

-- nothing was put or taken
abbrev pub no_traffic : Traffic
no_traffic = record { put = []; taken = [] }

-- the traffic at place i
abbrev pub traffic_at : LocalState → ℕ → Traffic
traffic_at state i = slice_index_or state.traffic i no_traffic

-- a site at the start: it thinks, and has put and taken nothing
abbrev pub start_of : SeenPlan → ℕ → LocalState
start_of plan s = record { phase = Thinking; ate = 0; must_quit = false; has_quit = false; traffic = map (λ edge. no_traffic) (edges_of plan s) }

-- the site thinks [paper: neighbours]
abbrev pub is_thinking : Phase → Bool
is_thinking Thinking = true
is_thinking _ = false

-- the site is hungry [paper: neighbours]
abbrev pub is_hungry : Phase → Bool
is_hungry Hungry = true
is_hungry _ = false

-- the site eats [paper: neighbours]
abbrev pub is_eating : Phase → Bool
is_eating Eating = true
is_eating _ = false

-- whether the plan says that this job fails: the one of the meal that the site began last
abbrev pub meal_fails : SeenPlan → ℕ → LocalState → Bool
meal_fails plan s state = (job_of plan s state.ate).fails

-- the site has no job left: it ate all its meals, or it has quit
abbrev pub has_no_job_left : SeenPlan → ℕ → LocalState → Bool
has_no_job_left plan s state = state.ate == job_count plan s || state.has_quit

-- the edge at place i of the site
abbrev pub edge_at : SeenPlan → ℕ → ℕ → ℕ
edge_at plan s i = slice_index_or (edges_of plan s) i 0

-- the site at the other end of the edge at place i
abbrev pub neighbour_at : SeenPlan → ℕ → ℕ → ℕ
neighbour_at plan s i = other_of plan (edge_at plan s i) s
