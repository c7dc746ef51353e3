use Rattle.std.proofs.Common.{◌≡◌}
use Rattle.dine_link.specs.Rings.{seen_rx}
use Rattle.dine_link.proofs.ring.RingLaneLane.take_at.Given as goal

abbrev pub invariant-loop : goal.invariant-loop
invariant-loop g l = seen_rx l.rx ≡ seen_rx l.initial.rx
