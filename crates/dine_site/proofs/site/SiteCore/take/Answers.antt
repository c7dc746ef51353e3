use Rattle.std.proofs.Common.{refl, sym, ◌∙◌, ap, arith}
use Rattle.std.proofs.lemmas.Grind.{common_steps}
use Rattle.dine_site.specs.declared.site.places.Place.{Place}
use Rattle.dine_site.specs.Core.{SeenCore}
use Rattle.dine_site.specs.Places.{place_at, breach_at}
use Rattle.dine_site.proofs.shared.one_site.Breaches.{breach_is}
use Rattle.dine_site.proofs.site.SiteCore.take.Goals as goal

pub returns-in-Some-clause-breach : goal.returns-in-Some-clause-breach
returns-in-Some-clause-breach c =
    sym (c.breach_of.ensures.breach
    ∙ ap (λ (place : Place). breach_at c.self.inside.site c.self.inside.ate place c.args.letter) c.at-place.ensures
    ∙ ap (λ (core : SeenCore). breach_at core.site core.ate (place_at core c.args.i) c.args.letter) c.self.view_is)
    ∙ c.in-Some.is

pub returns-in-Some-clause-taken : goal.returns-in-Some-clause-taken
returns-in-Some-clause-taken c plan state keeps stands =
    let core = c.args.self.now in
    sym (returns-in-Some-clause-breach c) ∙ breach_is plan state core stands keeps c.args.i c.requires c.args.letter

pub returns-in-Some-clause-agrees : goal.returns-in-Some-clause-agrees
returns-in-Some-clause-agrees c plan state keeps stands = breach_is plan state c.args.self.now stands keeps c.args.i c.requires c.args.letter

pub returns-clause-breach : goal.returns-clause-breach
returns-clause-breach c = grind (arith, common_steps)

pub returns-clause-agrees : goal.returns-clause-agrees
returns-clause-agrees c plan state keeps stands = breach_is plan state c.args.self.now stands keeps c.args.i c.requires c.args.letter

pub take_in_turn-requires-clause-place : goal.take_in_turn-requires-clause-place
take_in_turn-requires-clause-place c = c.requires

pub take_in_turn-requires-clause-in_turn : goal.take_in_turn-requires-clause-in_turn
take_in_turn-requires-clause-in_turn c =
    sym (c.breach_of.ensures.breach
    ∙ ap (λ (place : Place). breach_at c.self.inside.site c.self.inside.ate place c.args.letter) c.at-place.ensures
    ∙ ap (λ (core : SeenCore). breach_at core.site core.ate (place_at core c.args.i) c.args.letter) c.self.view_is)
    ∙ c.in_default.is

pub returns-clause-proper : goal.returns-clause-proper
returns-clause-proper c = c.take_in_turn.ensures.proper

pub returns-clause-core : goal.returns-clause-core
returns-clause-core c = c.take_in_turn.ensures.core

pub returns-clause-taken : goal.returns-clause-taken
returns-clause-taken c = c.take_in_turn.ensures.taken

pub returns-in-Some-clause-core : goal.returns-in-Some-clause-core
returns-in-Some-clause-core c = (refl, refl)
