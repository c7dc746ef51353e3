use Rattle.std.proofs.Common.{◌≡◌, count_by}
use Rattle.dine_world.proofs.world.World.refresh.Given as goal

-- the world is as it was
abbrev pub invariant-loop-site : goal.invariant-loop-site
invariant-loop-site l = l.self ≡ l.fn.self

-- each site that is counted leaves fewer
abbrev pub decreases-loop-site : goal.decreases-loop-site
decreases-loop-site l = count_by (λ b. b) l.outdated_counts
