use Rattle.std.proofs.Common.{◌<◌, true, length, refl, sym, subst, List, ◌∙◌, ap, arith, rules}
use Rattle.std.proofs.lemmas.Grind.{common_steps}
use Rattle.dine_rules.specs.declared.letters.Letter.TheVariants as letter
use Rattle.dine_rules.specs.Steps.{Break}
use Rattle.dine_site.specs.Core.{SeenCore}
use Rattle.dine_site.specs.Places.{place_at, no_place, after_close}
use Rattle.dine_site.specs.declared.site.places.Place.{Place}
use Rattle.dine_site.specs.private.SiteFields.{seen_core}
use Rattle.dine_site.proofs.one_site.Sound.{kept_with, sound_closed}
use Rattle.dine_site.proofs.one_site.CoreSteps.{puts, stepped}
use Rattle.dine_site.proofs.shared.one_site.SiteTests.{may_break}
use Rattle.dine_site.proofs.shared.one_site.Stands.{stands-after_close}
use Rattle.dine_site.proofs.site.SiteCore.break_off.Goals as goal

pub invariant_of-self : goal.invariant_of-self
invariant_of-self c =
    let old = seen_core c.self.inside in
    let here : Place = place_at old c.args.i in
    let within : c.args.i < length old.places = subst (λ (core : SeenCore). c.args.i < length core.places) (sym c.self.view_is) c.requires.place in
    kept_with c.self.inside c.args.i (record here { close_put = true }) c.put_close.new.self c.self.invariant c.put_close.ensures (sound_closed old here (c.self.invariant.sound.places c.args.i no_place within))

pub returns-then-at-clause-none : goal.returns-then-at-clause-none
returns-then-at-clause-none c =
    sym (ap (λ (place : Place). place.close_put) c.at.ensures ∙ ap (λ (core : SeenCore). (place_at core c.args.i).close_put) c.self.view_is) ∙ c.if-at.true

pub returns-then-at-clause-may : goal.returns-then-at-clause-may
returns-then-at-clause-may c =
    let put = returns-then-at-clause-none c in
    search rules

pub returns-then-at-clause-core : goal.returns-then-at-clause-core
returns-then-at-clause-core c =
    let put = returns-then-at-clause-none c in
    grind (arith, common_steps)

pub returns-then-at-clause-step : goal.returns-then-at-clause-step
returns-then-at-clause-step c =
    let put = returns-then-at-clause-none c in
    search rules

pub returns-clause-core : goal.returns-clause-core
returns-clause-core c =
    let with_places : List Place → SeenCore = λ (places : List Place). record (seen_core c.self.inside) { places = places } in
    ap with_places c.put_close.ensures ∙ ap (after_close c.args.i) c.self.view_is

pub returns-clause-none : goal.returns-clause-none
returns-clause-none c =
    sym (ap (λ (place : Place). place.close_put) c.at.ensures ∙ ap (λ (core : SeenCore). (place_at core c.args.i).close_put) c.self.view_is) ∙ c.if-at.false

pub returns-clause-may : goal.returns-clause-may
returns-clause-may c plan state keeps stands = sym (may_break plan state c.args.self.now stands keeps c.args.i c.requires.place c.requires.not_eating (returns-clause-none c))

pub returns-clause-step : goal.returns-clause-step
returns-clause-step c plan state keeps stands =
    let core = c.args.self.now in
    let i = c.args.i in
    puts plan state core stands keeps i (Break i) letter.Close letter.Close _ refl refl
    (stepped plan state core stands keeps (Break i) _ _ (returns-clause-core c) refl tt (may_break plan state core stands keeps i c.requires.place c.requires.not_eating (returns-clause-none c)) (stands-after_close plan state core stands i c.requires.place))
