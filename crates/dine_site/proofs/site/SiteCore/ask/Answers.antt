use Rattle.std.proofs.Common.{◌≡◌, ℕ, ◌<◌, length, Some, None, refl, sym, ap, subst, arith}
use Rattle.std.proofs.lemmas.Grind.{common_steps}
use Rattle.dine_rules.specs.declared.letters.Letter.TheVariants.{Request}
use Rattle.dine_site.specs.Places.{place_at, no_place, IsSound}
use Rattle.dine_rules.specs.Local.{edge_at}
use Rattle.dine_rules.specs.Steps.{Ask}
use Rattle.dine_site.specs.Core.{SeenCore}
use Rattle.dine_site.specs.declared.site.places.Place.{Place}
use Rattle.dine_site.specs.private.SiteFields.{seen_core}
use Rattle.dine_site.proofs.one_site.Sound.{kept_with, sound_asked}
use Rattle.dine_site.proofs.one_site.CoreSteps.{puts, stepped}
use Rattle.dine_site.proofs.shared.one_site.SiteTests.{may_ask}
use Rattle.dine_site.proofs.shared.one_site.Stands.{stands-after_ask, token_held}
use Rattle.dine_site.proofs.site.SiteCore.ask.Goals as goal

pub invariant_of-self : goal.invariant_of-self
invariant_of-self c =
    let old = seen_core c.self.inside in
    let here : Place = place_at old c.args.i in
    let within : c.args.i < length old.places = subst (λ (core : SeenCore). c.args.i < length core.places) (sym c.self.view_is) c.requires.place in
    kept_with c.self.inside c.args.i (record here { token = None }) c.remove_token.new.self c.self.invariant c.remove_token.ensures.away (sound_asked old here (c.self.invariant.sound.places c.args.i no_place within))

pub returns-clause-core : goal.returns-clause-core
returns-clause-core c = grind (arith, common_steps)

pub returns-clause-letter : goal.returns-clause-letter
returns-clause-letter c =
    let core = c.args.self.now in
    let sound : IsSound core = subst IsSound c.self.view_is c.self.invariant.sound in
    let token : (place_at core c.args.i).token ≡ Some c.remove_token.result = grind (arith, common_steps) in
    ap (λ (edge : ℕ). Request edge) ((sound.places c.args.i no_place c.requires.place).token c.remove_token.result token)

pub returns-clause-step : goal.returns-clause-step
returns-clause-step c plan state keeps stands =
    let core = c.args.self.now in
    let i = c.args.i in
    let token : (place_at core i).token ≡ Some c.remove_token.result = grind (arith, common_steps) in
    let held = token_held plan state core stands i c.requires.place c.remove_token.result token in
    puts plan state core stands keeps i (Ask i) (Request c.remove_token.result) (Request (edge_at plan core.site i)) _ (ap (λ (edge : ℕ). Request edge) held.1) refl
    (stepped plan state core stands keeps (Ask i) _ _ (returns-clause-core c) refl tt (may_ask plan state core stands keeps i c.requires.place c.requires.may) (stands-after_ask plan state core stands i c.requires.place held.0))
