use Rattle.std.proofs.Common.{count_by}
use Rattle.dine_world.specs.private.EnabledSites.{HasAllEnabled}
use Rattle.dine_world.proofs.world.World.search.Given as goal

-- the sites that were taken out are still
abbrev pub invariant-loop-site : goal.invariant-loop-site
invariant-loop-site l = HasAllEnabled l.self l.may_be_enabled

-- each site that is taken out leaves fewer
abbrev pub decreases-loop-site : goal.decreases-loop-site
decreases-loop-site l = count_by (λ b. b) l.may_be_enabled
