use Rattle.std.proofs.Common.{◌<◌, Bool, List, count_by, sym, subst}
use Rattle.dine_world.proofs.enabled_events.FirstSite.{fewer}
use Rattle.dine_world.proofs.world.World.refresh.Goals as goal

pub loop-site-smaller : goal.loop-site-smaller
loop-site-smaller c =
    subst (λ (outdated_counts : List Bool). count_by (λ b. b) outdated_counts < count_by (λ b. b) c.loop-site.outdated_counts) (sym c.remove.ensures) (fewer c.loop-site.outdated_counts c.in-Some.site (sym c.in-Some.ensures.value))
