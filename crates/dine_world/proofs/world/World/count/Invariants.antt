use Rattle.std.proofs.Common.{◌≡◌, ◌*◌, ◌≤◌, length}
use Rattle.dine_rules.specs.World.{events_at, is_enabled}
use Rattle.dine_world.specs.Worlds.{ForEachWorld}
use Rattle.dine_rules.proofs.shared.counting.KindNumbers.{of_sites}
use Rattle.dine_world.proofs.world.World.count.Given as goal

-- so many events of the sites passed over are enabled
abbrev pub invariant-loop-site : goal.invariant-loop-site
invariant-loop-site l = record {
  counted : ForEachWorld l.self (λ plan world. l.count ≡ length (of_sites (is_enabled plan world) (events_at plan) l.site));
  few : l.count ≤ 2564 * l.site;
}
