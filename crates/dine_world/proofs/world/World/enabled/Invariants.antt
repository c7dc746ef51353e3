use Rattle.std.proofs.Common.{◌≡◌, ◌+◌, length}
use Rattle.dine_rules.specs.World.{events_at, is_enabled}
use Rattle.dine_world.specs.Worlds.{ForEachWorld}
use Rattle.dine_rules.proofs.shared.counting.KindNumbers.{of_sites}
use Rattle.dine_world.proofs.world.World.enabled.Given as goal

-- those that are left are to come after those of the sites passed over
abbrev pub invariant-loop-site : goal.invariant-loop-site
invariant-loop-site l = ForEachWorld l.self (λ plan world. length (of_sites (is_enabled plan world) (events_at plan) l.site) + l.left ≡ l.n)
