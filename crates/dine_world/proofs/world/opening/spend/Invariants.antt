use Rattle.std.proofs.Common.{All, vec_len}
use Rattle.dine_world.specs.private.StepsOfSites.{IsNotEating}
use Rattle.dine_world.proofs.world.opening.spend.Given as goal

-- none of the sites that are left eats
abbrev pub invariant-loop-sites : goal.invariant-loop-sites
invariant-loop-sites l = All IsNotEating l.sites.items

abbrev pub decreases-loop-sites : goal.decreases-loop-sites
decreases-loop-sites l = vec_len l.sites
