-- The ends of the edges of a plan.
use Rattle.std.specs.Prelude.{◌≡◌, ◌⊎◌, ℕ, ◌<◌, ◌==◌, Bool, false, true, Option, Some, None, length}
use Rattle.dine_graph.specs.Plan.{SeenPlan, IsPlan, edge_count, edges_of, hi_of, is_end, lo_of, site_count}
use Rattle.dine_world.specs.declared.world.whereabouts.Whereabouts.{Whereabouts}
use Rattle.dine_world.specs.declared.world.whereabouts.Whereabouts.TheVariants.{At, To}
use Rattle.dine_rules.specs.Local.{edge_at, neighbour_at}
use Rattle.dine_rules.specs.World.{place_of}
use Rattle.dine_states.specs.declared.ends.End.{End}

-- The end is one of the plan: its site has the edge at its place and at no other place, and the neighbour is at the
-- other end.
pub record IsEnd (plan : SeenPlan) (end : End) : Type 0 where
  pub is_plan : IsPlan plan
  pub site : end.site < site_count plan
  pub edge : end.edge < edge_count plan
  pub place : end.place < length (edges_of plan end.site)
  pub is_at : edge_at plan end.site end.place ≡ end.edge
  pub only_at : place_of plan end.site end.edge ≡ end.place
  pub at_end : (end.site ≡ lo_of plan end.edge) ⊎ (end.site ≡ hi_of plan end.edge)
  pub neighbour : end.neighbour ≡ neighbour_at plan end.site end.place
  pub neighbour_site : end.neighbour < site_count plan
  pub neighbour_end : is_end plan end.neighbour end.edge ≡ true

-- something that was found there is at the site
abbrev pub is_at : Option Whereabouts → ℕ → Bool
is_at None s = false
is_at (Some (At x)) s = x == s
is_at (Some (To x)) s = false

-- something that was found there is on its way to the site
abbrev pub is_going_to : Option Whereabouts → ℕ → Bool
is_going_to None s = false
is_going_to (Some (At x)) s = false
is_going_to (Some (To x)) s = x == s
