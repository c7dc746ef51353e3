-- Orders of numbers in which the first of each pair is before the second.
use Rattle.std.specs.Prelude.{ℕ, ◌<◌, ◌==◌, ◌&&◌, not, Bool, List, IsPermutation, map}
use Rattle.std.specs.List.{Contains, list_any, range_with_len}
use Rattle.dine_graph.specs.Plan.{SeenPlan, edge_count, other_of}
use Rattle.dine_rules.specs.World.{WorldState}
use Rattle.dine_rules.specs.Precedence.{StandsBefore, preferred_end}

-- the pair has a number that is left before this one
abbrev pub is_behind : List ℕ → ℕ → ℕ × ℕ → Bool
is_behind left x pair = pair.1 == x && list_any (λ y. y == pair.0) left

-- no pair has a number that is left before this one
abbrev pub is_free : List (ℕ × ℕ) → List ℕ → ℕ → Bool
is_free pairs left x = not (list_any (is_behind left x) pairs)

-- All numbers below n, each once, and the first of each pair before the second.
pub record IsOrder (n : ℕ) (pairs : List (ℕ × ℕ)) (order : List ℕ) : Type 0 where
  pub each_once : IsPermutation order (range_with_len 0 n)
  pub first_before : (a b : ℕ) → Contains pairs (a, b) → a < n → b < n → StandsBefore a b order

-- the preferred end of an edge in a world, and the other end
abbrev pub ends_by_precedence : SeenPlan → WorldState → ℕ → ℕ × ℕ
ends_by_precedence plan world edge = (preferred_end plan world edge, other_of plan edge (preferred_end plan world edge))

-- those of all edges
abbrev pub all_by_precedence : SeenPlan → WorldState → List (ℕ × ℕ)
all_by_precedence plan world = map (ends_by_precedence plan world) (range_with_len 0 (edge_count plan))
