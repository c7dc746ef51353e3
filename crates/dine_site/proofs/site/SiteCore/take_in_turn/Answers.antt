use Rattle.std.proofs.Common.{◌≡◌, None, refl, sym, ◌∙◌, subst, arith, List, ap}
use Rattle.std.proofs.lemmas.Grind.{common_steps}
use Rattle.dine_site.specs.Core.{SeenCore}
use Rattle.dine_rules.specs.Steps.{Take}
use Rattle.dine_site.specs.private.SiteFields.{seen_core}
use Rattle.dine_site.specs.Places.{place_at, no_place, breach_at, place_after_take, IsSoundPlace, after_take}
use Rattle.dine_site.specs.declared.site.places.Place.{Place}
use Rattle.dine_site.proofs.one_site.Sound.{kept_with, sound_noted}
use Rattle.dine_site.proofs.one_site.CoreSteps.{stepped}
use Rattle.dine_site.proofs.shared.one_site.Breaches.{breach_is, may_take, stands-after_take}
use Rattle.dine_site.proofs.site.SiteCore.take_in_turn.Goals as goal

pub invariant_of-self : goal.invariant_of-self
invariant_of-self c =
    let old = seen_core c.self.inside in
    let i = c.args.i in
    let here : IsSoundPlace old (place_at old i) = c.self.invariant.sound.places i no_place (grind (arith, common_steps)) in
    let turn : breach_at old.site old.ate (place_at old i) c.args.letter ≡ None = subst (λ (core : SeenCore). breach_at core.site core.ate (place_at core i) c.args.letter ≡ None) (sym c.self.view_is) c.requires.in_turn in
    kept_with c.self.inside i (place_after_take c.args.letter (place_at old i)) c.note.new.self c.self.invariant c.note.ensures.noted (sound_noted old (place_at old i) c.args.letter turn here)

pub returns-clause-core : goal.returns-clause-core
returns-clause-core c =
    let with_places : List Place → SeenCore = λ (places : List Place). record (seen_core c.self.inside) { places = places } in
    ap with_places c.note.ensures.noted ∙ ap (after_take c.args.i c.args.letter) c.self.view_is

pub returns-clause-proper : goal.returns-clause-proper
returns-clause-proper c = c.note.ensures.proper

pub returns-clause-taken : goal.returns-clause-taken
returns-clause-taken c plan state keeps stands =
    let core = c.args.self.now in
    may_take plan state core stands keeps c.args.i c.requires.place c.args.letter (sym (breach_is plan state core stands keeps c.args.i c.requires.place c.args.letter) ∙ c.requires.in_turn)

pub returns-clause-step : goal.returns-clause-step
returns-clause-step c plan state keeps stands =
    let core = c.args.self.now in
    let sound : IsSoundPlace core (place_at core c.args.i) = subst (λ (core : SeenCore). IsSoundPlace core (place_at core c.args.i)) c.self.view_is (c.self.invariant.sound.places c.args.i no_place (grind (arith, common_steps))) in
    stepped plan state core stands keeps (Take c.args.i c.args.letter) _ _ (returns-clause-core c) refl c.note.ensures.proper (returns-clause-taken c plan state keeps stands)
    (stands-after_take plan state core stands keeps c.args.i c.requires.place sound c.args.letter (sym (breach_is plan state core stands keeps c.args.i c.requires.place c.args.letter) ∙ c.requires.in_turn))
