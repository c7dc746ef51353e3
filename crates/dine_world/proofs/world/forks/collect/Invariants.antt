use Rattle.std.proofs.Common.{◌≡◌, map, vec_capacity}
use Rattle.dine_world.specs.private.Forks.{at_rest}
use Rattle.dine_world.proofs.all_sites.ForksOut.{AreOut}
use Rattle.dine_world.proofs.world.forks.collect.Given as goal

-- the forks of the edges before this one are out, and each other fork is where it was
abbrev pub invariant-loop-edge : goal.invariant-loop-edge
invariant-loop-edge l = AreOut (map at_rest l.fn.hands) l.fn.links l.fn.edges l.edge l.forks.items (map at_rest l.hands) l.links × (vec_capacity l.forks ≡ vec_capacity l.fn.forks)
