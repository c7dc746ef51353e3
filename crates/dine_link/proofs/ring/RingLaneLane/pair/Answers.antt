use Rattle.std.proofs.Common.{List, length, refl, sym, ap}
use Rattle.dine_rules.specs.Letters.{has_close}
use Rattle.dine_link.specs.declared.stamped.Stamped.{Stamped}
use Rattle.dine_link.specs.Stamps.{letters_in, moments_in}
use Rattle.dine_link.proofs.ring.RingLaneLane.pair.Goals as goal

pub invariant_of-tx : goal.invariant_of-tx
invariant_of-tx c = record { counted = sym (ap (λ (l : List Stamped). length l) c.in-Ok.ensures.producer.0) }

pub invariant_of-rx : goal.invariant_of-rx
invariant_of-rx c =
    let none = sym c.in-Ok.ensures.consumer.0 in
    record { counted = ap (λ (l : List Stamped). length l) none; noted = ap (λ (l : List Stamped). has_close (letters_in l)) none }

pub invariant_of-result : goal.invariant_of-result
invariant_of-result c = record { unclosed = ap (λ (l : List Stamped). has_close (letters_in l)) c.in-Ok.ensures.producer.0 }

pub returns-clause-name : goal.returns-clause-name
returns-clause-name c = (refl, refl)

pub returns-clause-empty : goal.returns-clause-empty
returns-clause-empty c = (ap letters_in c.in-Ok.ensures.producer.0, ap letters_in c.in-Ok.ensures.consumer.0)

pub returns-clause-untimed : goal.returns-clause-untimed
returns-clause-untimed c = (ap moments_in c.in-Ok.ensures.producer.0, ap moments_in c.in-Ok.ensures.consumer.0)
