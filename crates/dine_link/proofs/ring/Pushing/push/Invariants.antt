use Rattle.std.proofs.Common.{◌≡◌}
use Rattle.rtrb.specs.Ring.{sent, SameProducer}
use Rattle.dine_link.proofs.ring.Pushing.push.Given as goal

abbrev pub invariant-loop : goal.invariant-loop
invariant-loop g l = SameProducer l.initial.self.producer l.self.producer × (sent l.self.producer ≡ sent l.initial.self.producer) × (l.message ≡ l.initial.message) × (l.self.put ≡ l.initial.self.put) × (l.self.edge ≡ l.initial.self.edge) × (l.self.from ≡ l.initial.self.from)
