use Rattle.std.proofs.Common.{◌≡◌, ◌++◌, All, map, reverse, vec_capacity, vec_len}
use Rattle.dine_world.specs.private.Forks.{core_ended}
use Rattle.dine_world.specs.private.StepsOfSites.{HasOwnMeal}
use Rattle.dine_world.proofs.world.forks.end_sites.Given as goal

-- The cores of the sites that are left, and the hands from the last to the first, are those of all sites. Each site has
-- its own meal, and the capacity for hands is that of the start.
abbrev pub invariant-loop-hands : goal.invariant-loop-hands
invariant-loop-hands l = (map core_ended l.sites.items ++ reverse l.hands.items ≡ map core_ended l.fn.sites.items) × All HasOwnMeal l.sites.items × (vec_capacity l.hands ≡ vec_capacity l.fn.hands)

abbrev pub decreases-loop-hands : goal.decreases-loop-hands
decreases-loop-hands l = vec_len l.sites
