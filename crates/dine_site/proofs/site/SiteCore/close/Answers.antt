use Rattle.std.proofs.Common.{◌<◌, true, length, refl, sym, subst, arith}
use Rattle.std.proofs.lemmas.Grind.{common_steps}
use Rattle.dine_rules.specs.declared.letters.Letter.TheVariants as letter
use Rattle.dine_rules.specs.Steps as step
use Rattle.dine_site.specs.Core.{SeenCore}
use Rattle.dine_site.specs.Places.{place_at, no_place}
use Rattle.dine_site.specs.declared.site.places.Place.{Place}
use Rattle.dine_site.specs.private.SiteFields.{seen_core}
use Rattle.dine_site.proofs.one_site.Sound.{kept_with, sound_closed}
use Rattle.dine_site.proofs.one_site.CoreSteps.{puts, stepped}
use Rattle.dine_site.proofs.shared.one_site.SiteTests.{may_close}
use Rattle.dine_site.proofs.shared.one_site.Stands.{stands-after_close}
use Rattle.dine_site.proofs.site.SiteCore.close.Goals as goal

pub invariant_of-self : goal.invariant_of-self
invariant_of-self c =
    let old = seen_core c.self.inside in
    let here : Place = place_at old c.args.i in
    let within : c.args.i < length old.places = subst (λ (core : SeenCore). c.args.i < length core.places) (sym c.self.view_is) c.requires.place in
    kept_with c.self.inside c.args.i (record here { close_put = true }) c.put_close.new.self c.self.invariant c.put_close.ensures (sound_closed old here (c.self.invariant.sound.places c.args.i no_place within))

pub returns-clause-core : goal.returns-clause-core
returns-clause-core c = grind (arith, common_steps)

pub returns-clause-step : goal.returns-clause-step
returns-clause-step c plan state keeps stands =
    let core = c.args.self.now in
    let i = c.args.i in
    puts plan state core stands keeps i (step.Close i) letter.Close letter.Close _ refl refl
    (stepped plan state core stands keeps (step.Close i) _ _ (returns-clause-core c) refl tt (may_close plan state core stands keeps i c.requires.place c.requires.may) (stands-after_close plan state core stands i c.requires.place))
