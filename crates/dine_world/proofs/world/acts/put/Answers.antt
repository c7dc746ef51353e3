use Rattle.std.proofs.Common.{◌≡◌, None, Some, sym, ◌∙◌, ap, subst, arith, slice_set}
use Rattle.std.proofs.lemmas.Grind.{common_steps}
use Rattle.dine_rules.specs.declared.events.Shape.{Shape}
use Rattle.dine_rules.specs.Steps.{after, shape_of, step_by}
use Rattle.dine_site.specs.LinkNumbers.{link_from}
use Rattle.dine_site.specs.Places.{place_at}
use Rattle.dine_world.specs.WorldSites.{meal_of, next_in, outcomes_of}
use Rattle.dine_world.specs.private.StepsOfSites.{MovesLetters, has_failed, with_letter}
use Rattle.dine_world.proofs.all_sites.Shapes.{meal-after, puts_not_takes, step_alike}
use Rattle.dine_world.proofs.world.acts.put.Goals as goal

pub returns-clause-does : goal.returns-clause-does
returns-clause-does c plan state one keeps eats world_site is =
    let core = c.args.world_site.now.core in
    let i = c.args.i in
    let old = c.args.links.now in
    let l = c.put-letter.result in
    let site : c.put-letter.new.self.site ≡ core.site = c.put-letter.ensures.site in
    let failed = has_failed c.args.world_site.now.outcomes core.ate in
    let step_is : step_by failed (λ place. None) c.args.kind ≡ Some one = step_alike failed c.args.kind (λ place. None) (next_in old core) (λ j takes. absurd (puts_not_takes (shape_of c.args.kind) i j c.requires.puts takes)) ∙ is in
    let did = c.put-letter.ensures.step failed i one c.requires.puts step_is plan state keeps world_site.core in
    let links : slice_set old c.link_from-link.result c.put.new.self ≡ with_letter old (link_from core.site (place_at core i)) l = grind (arith, common_steps) in
    record {
      site = site;
      stands = record {
        core = did.1.stands;
        meal = world_site.meal ∙ sym (meal-after plan core.site state one i l eats did.0 did.1.allowed.needs) ∙ ap (λ x. meal_of plan x (after plan core.site state one)) (sym site);
        outcomes = world_site.outcomes ∙ ap (outcomes_of plan) (sym site);
      };
      letters = subst (λ (shape : Shape). MovesLetters plan state core shape one old (slice_set old c.link_from-link.result c.put.new.self)) (sym c.requires.puts) (l, did.0, links);
    }
