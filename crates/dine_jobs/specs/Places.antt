-- What a meal has at one of its places.
use Rattle.std.specs.Prelude.{◌≡◌, ℕ, List, Some, slice_get}
use Rattle.dine_token.specs.Fork.{SeenFork, other_end}

-- one of these forks is of the edge
abbrev pub HasEdge : List SeenFork → ℕ → Type 0
HasEdge forks edge = (place : ℕ) × (fork : SeenFork) × (slice_get forks place ≡ Some fork) × (fork.edge ≡ edge)

-- one of these forks is of an edge of the site that has this neighbour at its other end
abbrev pub HasNeighbour : List SeenFork → ℕ → ℕ → Type 0
HasNeighbour forks site neighbour = (place : ℕ) × (fork : SeenFork) × (slice_get forks place ≡ Some fork) × (neighbour ≡ other_end fork site)
