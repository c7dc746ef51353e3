use Rattle.std.proofs.Common.{List, [], ◌∷◌, length, refl, ap, sym, ◌∙◌, arith, length-append}
use Rattle.rtrb.specs.Ring.{received}
use Rattle.dine_rules.specs.Letters.{has_close}
use Rattle.dine_link.specs.declared.ring.RingRx.{RingRx}
use Rattle.dine_link.specs.declared.stamped.Stamped.{Stamped}
use Rattle.dine_link.specs.Links.{with_letter_at}
use Rattle.dine_link.proofs.Endings.{has_close-added}
use Rattle.dine_link.proofs.Stamping.{letters_count, letters_then, popped}
use Rattle.dine_link.specs.Stamps.{letters_in}
use Rattle.dine_link.proofs.ring.RingLaneLane.take_at.Goals as goal

pub invariant_of-rx-clause-noted : goal.invariant_of-rx-clause-noted
invariant_of-rx-clause-noted g c = rw (ap letters_in c.in-Ok.ensures.ok.0 ∙ letters_then (received c.loop.rx.consumer) c.in-Ok.got, ap (λ end. end.letters) c.loop.invariant) (c.is_close-rx.ensures ∙ sym (has_close-added (letters_in (received c.args.rx.now.consumer)) c.in-Ok.got.letter c.requires.open))

pub invariant_of-rx-in_default : goal.invariant_of-rx-in_default
invariant_of-rx-in_default g c =
    let same = sym c.in_default.ensures.empty.0 in
    record { counted = c.loop.rx.counted ∙ ap (λ (l : List Stamped). length l) same; noted = c.loop.rx.noted ∙ ap (λ (l : List Stamped). has_close (letters_in l)) same }

pub overflow_add-rx : goal.overflow_add-rx
overflow_add-rx g c =
    omega (arith, c.loop.rx.counted, letters_count (received c.loop.rx.consumer), ap (λ end. length end.letters) c.loop.invariant, c.requires.few_letters)

pub invariant_of-rx-clause-counted : goal.invariant_of-rx-clause-counted
invariant_of-rx-clause-counted g c =
    let longer = ap (λ (letters : List Stamped). length letters) c.in-Ok.ensures.ok.0 in
    omega (arith, c.loop.rx.counted, longer, length-append (received c.loop.rx.consumer) (c.in-Ok.got ∷ []))

pub returns-in-Ok-clause-taken : goal.returns-in-Ok-clause-taken
returns-in-Ok-clause-taken g c =
    let got = c.in-Ok.got in
    let letters = received c.pop.new.self in
    let new : RingRx = record { edge = c.loop.rx.edge; from = c.loop.rx.from; taken = length letters; closed = has_close (letters_in letters); consumer = c.pop.new.self; counted = refl; noted = refl } in
    popped c.loop.rx new got c.pop.ensures.ring refl refl c.in-Ok.ensures.ok.0 ∙ ap (with_letter_at got.letter got.stamp.at) c.loop.invariant

pub loop-init : goal.loop-init
loop-init g c = refl
