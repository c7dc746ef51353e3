use Rattle.std.proofs.Common.{◌≡◌, false, refl, subst, arith, ◌<◌, length}
use Rattle.std.proofs.lemmas.Grind.{common_steps}
use Rattle.dine_token.specs.Fork.{after_move}
use Rattle.dine_rules.specs.declared.letters.Letter.TheVariants.{Fork}
use Rattle.dine_site.specs.declared.site.places.Place.{Place}
use Rattle.dine_rules.specs.Local.{is_eating}
use Rattle.dine_site.specs.private.SiteFields.{seen_core}
use Rattle.dine_site.specs.Places.{place_at, neighbour_of, no_place, with_fork, OnHere}
use Rattle.dine_site.specs.Core.{SeenCore}
use Rattle.dine_site.specs.declared.site.places.ForkSlot.TheVariants.{Away}
use Rattle.dine_site.proofs.one_site.Sound.{kept_with, sound_away}
use Rattle.dine_rules.specs.Steps.{Give}
use Rattle.dine_site.proofs.one_site.CoreSteps.{puts, stepped}
use Rattle.dine_site.proofs.shared.one_site.SiteTests.{may_give}
use Rattle.dine_site.proofs.shared.one_site.Stands.{stands-after_give, fork_held}
use Rattle.dine_site.proofs.site.SiteCore.give.Goals as goal

pub returns-clause-core : goal.returns-clause-core
returns-clause-core c = grind (arith, common_steps)

pub returns-clause-letter : goal.returns-clause-letter
returns-clause-letter c = subst (λ (core : SeenCore). OnHere (λ fork. c.give.result ≡ Fork (after_move (neighbour_of core.site (place_at core c.args.i)) fork)) (place_at core c.args.i).fork) c.self.view_is c.give.ensures.letter

pub returns-clause-step : goal.returns-clause-step
returns-clause-step c plan state keeps stands =
    let core = c.args.self.now in
    let i = c.args.i in
    let held = fork_held plan state core stands i c.requires.place (λ p fork. c.give.result ≡ Fork (after_move (neighbour_of core.site p) fork)) (returns-clause-letter c) in
    puts plan state core stands keeps i (Give i) c.give.result _ _ held.2 refl
    (stepped plan state core stands keeps (Give i) _ _ (returns-clause-core c) refl tt (may_give plan state core stands keeps i c.requires.place c.requires.may) (stands-after_give plan state core stands i c.requires.place _ held.0))

pub invariant_of-self : goal.invariant_of-self
invariant_of-self c =
    let old = seen_core c.self.inside in
    let here : Place = place_at old c.args.i in
    let awake : is_eating old.phase ≡ false = grind (arith, common_steps) in
    let within : c.args.i < length old.places = grind (arith, common_steps) in
    kept_with c.self.inside c.args.i (with_fork Away here) c.give.new.self c.self.invariant c.give.ensures.away (sound_away old here awake (c.self.invariant.sound.places c.args.i no_place within))
