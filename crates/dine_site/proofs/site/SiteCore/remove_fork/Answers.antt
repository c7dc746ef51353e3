use Rattle.std.proofs.Common.{◌≡◌, false, arith, ◌<◌, length}
use Rattle.std.proofs.lemmas.Grind.{common_steps}
use Rattle.dine_rules.specs.Local.{is_eating}
use Rattle.dine_site.specs.private.SiteFields.{seen_core}
use Rattle.dine_site.specs.Places.{place_at, no_place, with_fork}
use Rattle.dine_site.specs.declared.site.places.Place.{Place}
use Rattle.dine_site.specs.declared.site.places.ForkSlot.TheVariants.{Away}
use Rattle.dine_site.proofs.one_site.Sound.{kept_with, sound_away}
use Rattle.dine_site.proofs.site.SiteCore.remove_fork.Goals as goal

pub invariant_of-self : goal.invariant_of-self
invariant_of-self c =
    let old = seen_core c.self.inside in
    let here : Place = place_at old c.args.i in
    let awake : is_eating old.phase ≡ false = grind (arith, common_steps) in
    let within : c.args.i < length old.places = grind (arith, common_steps) in
    kept_with c.self.inside c.args.i (with_fork Away here) c.remove_fork.new.self c.self.invariant c.remove_fork.ensures.away (sound_away old here awake (c.self.invariant.sound.places c.args.i no_place within))
