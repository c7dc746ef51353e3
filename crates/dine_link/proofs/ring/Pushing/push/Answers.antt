use Rattle.std.proofs.Common.{◌++◌, ◌∷◌, [], List, length, refl, ◌∙◌, ap, ap₂, arith, length-append}
use Rattle.rtrb.specs.Ring.{sent}
use Rattle.dine_link.specs.declared.ring.Pushing.{Pushing}
use Rattle.dine_link.specs.declared.stamped.Stamped.{Stamped}
use Rattle.dine_link.proofs.Stamping.{letters_count, pushed}
use Rattle.dine_link.proofs.ring.Pushing.push.Goals as goal

pub overflow_add-self : goal.overflow_add-self
overflow_add-self g c = omega (arith, c.loop.invariant.3, c.args.self.now.counted, letters_count (sent c.args.self.now.producer), c.requires)

pub invariant_of-self : goal.invariant_of-self
invariant_of-self g c =
    let same = c.loop.invariant in
    let longer = ap (λ (letters : List Stamped). length letters) (c.in-Ok.ensures.ok.0 ∙ ap (λ (letters : List Stamped). letters ++ c.loop.message ∷ []) same.1) in
    omega (arith, same.3, c.args.self.now.counted, longer, length-append (sent c.args.self.now.producer) (c.loop.message ∷ []))

pub returns-in-Ok : goal.returns-in-Ok
returns-in-Ok g c =
    let same = c.loop.invariant in
    let ring = c.push.ensures.ring in
    let letter : Stamped = record { letter = c.args.letter; stamp = c.args.stamp } in
    let more = c.in-Ok.ensures.ok.0 ∙ ap₂ (λ (letters : List Stamped) (x : Stamped). letters ++ x ∷ []) same.1 same.2 in
    let new : Pushing = record { edge = c.loop.self.edge; from = c.loop.self.from; put = length (sent c.push.new.self); producer = c.push.new.self; counted = refl } in
    pushed c.args.self.now new letter ((ring.0.0 ∙ same.0.0.0, ring.0.1 ∙ same.0.0.1, ring.0.2 ∙ same.0.0.2, ring.0.3 ∙ same.0.0.3), ring.1 ∙ same.0.1) same.4 same.5 more

pub loop-init : goal.loop-init
loop-init g c = (((refl, refl, refl, refl), refl), refl, refl, refl, refl, refl)
