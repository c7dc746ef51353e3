use Rattle.std.proofs.Common.{◌≡◌, ◌∙◌, ℕ, length, set, get_or, ap, arith}
use Rattle.dine_site.specs.declared.site.places.Place.{Place}
use Rattle.dine_site.specs.declared.site.places.ForkSlot.TheVariants.{Here}
use Rattle.dine_site.specs.Places.{with_fork}
use Rattle.dine_site.proofs.shared.lists.Lists.{laid_step}
use Rattle.dine_site.proofs.site.meals.put_back.Goals as goal

pub loop-hands-preserved : goal.loop-hands-preserved
loop-hands-preserved c =
    let inv = c.loop-hands.invariant in
    let places = c.loop-hands.places in
    let rest = c.take_last-held.new.self in
    let d = c.index-places-len.result in
    let at : c.len.result ≡ length rest.items = omega (arith, c.len.ensures, rest.ok.0) in
    let step = laid_step places c.args.places.now c.loop-hands.hands.items rest.items c.args.hands.now.items c.take_last-held.result d c.take_last-held.ensures.items inv.0 inv.1 inv.2 c.requires in (
      step.0,
      ap (λ (place : Place). set places c.len.result place) c.put_back.ensures
          ∙ ap (λ (n : ℕ). set places n (with_fork (Here c.take_last-held.result) (get_or places n d))) at ∙ step.1,
      step.2,
      c.take_last-held.ensures.capacity ∙ inv.3,
    )
