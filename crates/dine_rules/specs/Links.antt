-- The letters in the links, and the forks and tokens of each edge in the whole world.
use Rattle.std.specs.Prelude.{ℕ, ◌+◌, ◌<◌, List, length, drop}
use Rattle.dine_graph.specs.Plan.{SeenPlan, IsPlan, site_count, edge_count, edges_of, lo_of, hi_of}
use Rattle.dine_rules.specs.declared.events.Event.{Event}
use Rattle.dine_rules.specs.declared.letters.Letter.{Letter}
use Rattle.dine_rules.specs.Letters.{forks_in, requests_in}
use Rattle.dine_rules.specs.Local.{traffic_at}
use Rattle.dine_rules.specs.Holdings.{fork_at, token_at}
use Rattle.dine_rules.specs.World.{WorldState, Reaches, state_of, place_of, put_to}

-- P holds in every world that events reach from the start, for the link to each site at each place
abbrev pub ForEachLink : (SeenPlan → WorldState → ℕ → ℕ → Type 0) → Type 0
ForEachLink P = (plan : SeenPlan) (events : List Event) (world : WorldState) (s i : ℕ) → IsPlan plan → Reaches plan events world
    → s < site_count plan → i < length (edges_of plan s) → P plan world s i

-- P holds in every world that events reach from the start, for each edge
abbrev pub ForEachEdge : (SeenPlan → WorldState → ℕ → Type 0) → Type 0
ForEachEdge P = (plan : SeenPlan) (events : List Event) (world : WorldState) (edge : ℕ) → IsPlan plan → Reaches plan events world
    → edge < edge_count plan → P plan world edge

-- the letters in the link to the site at place i, in order: those that were put on it and not taken
abbrev pub queue_to : SeenPlan → WorldState → ℕ → ℕ → List Letter
queue_to plan world s i = drop (length (traffic_at (state_of world s) i).taken) (put_to plan world s i)

-- how many forks of an edge are at one of its ends and in the link to that end
abbrev pub forks_near : SeenPlan → WorldState → ℕ → ℕ → ℕ
forks_near plan world s edge = fork_at plan s (state_of world s) (place_of plan s edge) + forks_in (queue_to plan world s (place_of plan s edge))

-- how many tokens of an edge are at one of its ends and in the link to that end; in a link a token is a Request
abbrev pub tokens_near : SeenPlan → WorldState → ℕ → ℕ → ℕ
tokens_near plan world s edge = token_at plan s (state_of world s) (place_of plan s edge) + requests_in (queue_to plan world s (place_of plan s edge))

-- how many forks an edge has: at both ends and in both links [paper: one fork]
abbrev pub forks_of_edge : SeenPlan → WorldState → ℕ → ℕ
forks_of_edge plan world edge = forks_near plan world (lo_of plan edge) edge + forks_near plan world (hi_of plan edge) edge

-- how many tokens an edge has: at both ends and in both links [paper: one fork]
abbrev pub tokens_of_edge : SeenPlan → WorldState → ℕ → ℕ
tokens_of_edge plan world edge = tokens_near plan world (lo_of plan edge) edge + tokens_near plan world (hi_of plan edge) edge
