-- What the readers of a World return: where the fork and the token of an edge are, whether the fork is dirty, which
-- letters are in a link, and which of Done and Close were put and taken at a place.
use Rattle.std.specs.Prelude.{◌≡◌, ◌⊎◌, ℕ, ◌<◌, ◌≤◌, ◌==◌, ◌&&◌, ◌||◌, nat_lt, Bool, Option, Some, None, MatchOption, length, if◌then◌else◌}
use Rattle.dine_token.specs.Log.{is_dirty}
use Rattle.dine_graph.specs.Plan.{SeenPlan, edge_count, edges_of, hi_of, lo_of, site_count}
use Rattle.dine_site.specs.declared.site.done_and_close.DoneAndClose.{DoneAndClose}
use Rattle.dine_world.specs.declared.world.whereabouts.Whereabouts.{Whereabouts}
use Rattle.dine_world.specs.declared.world.whereabouts.Whereabouts.TheVariants.{At, To}
use Rattle.dine_rules.specs.Holdings.{fork_at, hand_at, token_at}
use Rattle.dine_rules.specs.Letters.{forks_in, has_close, has_done, requests_in}
use Rattle.dine_rules.specs.Links.{queue_to}
use Rattle.dine_rules.specs.Local.{Traffic}
use Rattle.dine_rules.specs.World.{WorldState, place_of, state_of}

-- the site is an end of the edge, and the edge is one of the plan
abbrev pub IsEndOf : SeenPlan → ℕ → ℕ → Type 0
IsEndOf plan edge s = (edge < edge_count plan) × ((s ≡ lo_of plan edge) ⊎ (s ≡ hi_of plan edge))

-- A fork or token of an edge is there: an end holds it, or it is in the link to an end. `held` gives how many each end
-- holds, and `coming` how many are in the link to each end.
abbrev pub IsThere : SeenPlan → ℕ → (ℕ → ℕ) → (ℕ → ℕ) → Whereabouts → Type 0
IsThere plan edge held coming (At s) = IsEndOf plan edge s × (held s ≡ 1)
IsThere plan edge held coming (To s) = IsEndOf plan edge s × (coming s ≡ 1)

-- how many forks of the edge a site holds
abbrev pub forks_at : SeenPlan → WorldState → ℕ → ℕ → ℕ
forks_at plan world edge s = fork_at plan s (state_of world s) (place_of plan s edge)

-- how many forks of the edge are in the link to a site
abbrev pub forks_to : SeenPlan → WorldState → ℕ → ℕ → ℕ
forks_to plan world edge s = forks_in (queue_to plan world s (place_of plan s edge))

-- how many tokens of the edge a site holds
abbrev pub tokens_at : SeenPlan → WorldState → ℕ → ℕ → ℕ
tokens_at plan world edge s = token_at plan s (state_of world s) (place_of plan s edge)

-- how many tokens of the edge are in the link to a site, as Requests
abbrev pub tokens_to : SeenPlan → WorldState → ℕ → ℕ → ℕ
tokens_to plan world edge s = requests_in (queue_to plan world s (place_of plan s edge))

-- the fork of the edge is there
abbrev pub IsForkAt : SeenPlan → WorldState → ℕ → Whereabouts → Type 0
IsForkAt plan world edge = IsThere plan edge (forks_at plan world edge) (forks_to plan world edge)

-- the token of the edge is there
abbrev pub IsTokenAt : SeenPlan → WorldState → ℕ → Whereabouts → Type 0
IsTokenAt plan world edge = IsThere plan edge (tokens_at plan world edge) (tokens_to plan world edge)

-- The result is where it is, by what `IsHere` says, and it is nowhere else. There is no result if there is no such
-- edge.
pub record ReportsWhere (plan : SeenPlan) (edge : ℕ) (IsHere : Whereabouts → Type 0) (result : Option Whereabouts) : Type 0 where
  pub there : MatchOption result (edge_count plan ≤ edge) IsHere
  pub only : (other : Whereabouts) → IsHere other → result ≡ Some other

-- a site holds the fork of the edge, and the log in its hand is dirty
abbrev pub holds_dirty : SeenPlan → WorldState → ℕ → ℕ → Bool
holds_dirty plan world edge s = forks_at plan world edge s == 1 && is_dirty (hand_at s (state_of world s) (place_of plan s edge))

-- The fork of the edge is dirty: one of the ends holds it, and it is dirty there. So a fork in a link is not dirty.
-- [paper: clean and dirty]
abbrev pub is_fork_dirty : SeenPlan → WorldState → ℕ → Bool
is_fork_dirty plan world edge = holds_dirty plan world edge (lo_of plan edge) || holds_dirty plan world edge (hi_of plan edge)

-- the result for an edge, if it is one of the plan
abbrev pub at_edge : {A : Type 0} → SeenPlan → ℕ → A → Option A
at_edge plan edge result = if nat_lt edge (edge_count plan) then Some result else None

-- the site is one of the plan, and has the place
abbrev pub is_place : SeenPlan → ℕ → ℕ → Bool
is_place plan s i = nat_lt s (site_count plan) && nat_lt i (length (edges_of plan s))

-- the result for a place, if there is such a place
abbrev pub at_place : {A : Type 0} → SeenPlan → ℕ → ℕ → A → Option A
at_place plan s i result = if is_place plan s i then Some result else None

-- which of Done and Close an end has put and taken
abbrev pub said_in : Traffic → DoneAndClose
said_in traffic = record {
  done_put = has_done traffic.put;
  done_taken = has_done traffic.taken;
  close_put = has_close traffic.put;
  close_taken = has_close traffic.taken;
}
