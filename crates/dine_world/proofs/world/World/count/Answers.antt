use Rattle.std.proofs.Common.{arith}
use Rattle.dine_rules.specs.World.{events_at, is_enabled}
use Rattle.dine_rules.proofs.shared.counting.KindNumbers.{more_sites}
use Rattle.dine_world.proofs.world.World.count.Goals as goal

pub loop-site-preserved : goal.loop-site-preserved
loop-site-preserved c = record {
  counted = λ plan world is. omega (arith, c.loop-site.invariant.counted plan world is, c.count_of-count.ensures.count plan world is, more_sites (is_enabled plan world) (events_at plan) c.loop-site.site);
  few = omega arith;
}
