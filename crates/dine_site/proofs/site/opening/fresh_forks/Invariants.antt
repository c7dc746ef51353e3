use Rattle.std.proofs.Common.{◌≡◌, ◌++◌, drop}
use Rattle.dine_site.specs.Core.{fresh_forks}
use Rattle.dine_site.proofs.site.opening.fresh_forks.Given as goal

-- with those of the edges to come, they are all
abbrev pub invariant-loop-edge : goal.invariant-loop-edge
invariant-loop-edge l = l.forks.items ++ fresh_forks l.plan l.site (drop l.edge-index l.edge-items) ≡ fresh_forks l.plan l.site l.edge-items
