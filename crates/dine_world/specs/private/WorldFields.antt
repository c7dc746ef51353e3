-- How a world is kept: what represents its value, and what is kept beside that.
use Rattle.std.specs.Prelude.{◌≡◌, ◌≤◌, [], length, vec_capacity}
use Rattle.dine_graph.specs.Plan.{SeenPlan}
use Rattle.dine_world.specs.declared.world.World.TheInside.{Inside}
use Rattle.dine_rules.specs.World.{WorldState}
use Rattle.dine_world.specs.Worlds.{SeenWorld, IsWorldOf}
use Rattle.dine_world.specs.private.EnabledSites.{HasAllEnabled}
use Rattle.dine_world.specs.private.Counts.{HasCounts}
use Rattle.dine_world.specs.private.Inboxes.{HasInboxes}

-- the world that the fields of a `World` represent
abbrev pub seen_world : Inside → SeenWorld
seen_world world = record { sites = world.sites.items; links = world.links.items; edges = world.edges.items; bound = world.bound }

-- There is a plan, and a state that events reach from its start, that the world represents. There is capacity for the
-- forks of all edges and for the hands of all sites. The set `may_be_enabled` has each site with an enabled event.
-- `nonempty_inboxes` has the places at which each site can take a letter. The count of each site that is not in
-- `outdated_counts` is right.
pub record IsKeptWorld (world : Inside) : Type 0 where
  pub plan : SeenPlan
  pub state : WorldState
  pub stands : IsWorldOf plan state (seen_world world)
  pub no_forks : world.forks.items ≡ []
  pub room : length world.edges.items ≤ vec_capacity world.forks
  pub no_hands : world.hands.items ≡ []
  pub room_for_hands : length world.sites.items ≤ vec_capacity world.hands
  pub may_be_enabled : HasAllEnabled (seen_world world) world.may_be_enabled
  pub nonempty_inboxes : HasInboxes (seen_world world) world.nonempty_inboxes.items
  pub counts : HasCounts (seen_world world) world.counts.items world.outdated_counts
