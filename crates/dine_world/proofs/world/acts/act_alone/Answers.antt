use Rattle.std.proofs.Common.{◌≡◌, ℕ, ◌+◌, true, Some, refl, sym, ◌∙◌, ap, subst}
use Rattle.std.proofs.lemmas.Option.{same_Some}
use Rattle.dine_token.specs.Meal.{SeenMeal}
use Rattle.dine_rules.specs.declared.events.EventKind.{EventKind}
use Rattle.dine_rules.specs.declared.events.EventKind.TheVariants as event
use Rattle.dine_rules.specs.Local.{LocalState}
use Rattle.dine_rules.specs.Steps.{Step, after}
use Rattle.dine_rules.specs.Steps as step
use Rattle.dine_site.specs.Core.{SeenCore, forks_in_hand}
use Rattle.dine_site.specs.NextEvent.{can_by_itself}
use Rattle.dine_site.specs.Standing.{all_places}
use Rattle.dine_world.specs.WorldSites.{meal_of, outcomes_of}
use Rattle.dine_world.specs.private.StepsOfSites.{SiteStep, step_in}
use Rattle.dine_world.proofs.shared.all_sites.OpenedSites.{meal_is}
use Rattle.dine_site.proofs.shared.lists.Options.{some_of}
use Rattle.dine_world.proofs.world.acts.act_alone.Goals as goal

pub returns-in-Begin : goal.returns-in-Begin
returns-in-Begin c links plan state one keeps eats world_site is =
    let core = c.args.world_site.now.core in
    let new = c.begin.new.world_site in
    let same : step.Begin ≡ one = same_Some _ _ (sym (ap (step_in c.args.world_site.now.outcomes links core) c.in-Begin.is) ∙ is) in
    let site : new.core.site ≡ core.site = ap (λ (x : SeenCore). x.site) c.begin.ensures.core in
    let eaten = some_of new.meal _ c.begin.ensures.meal in
    let next : LocalState = after plan core.site state step.Begin in
    let number : eaten.0.k ≡ state.ate + 1 = eaten.2.1 ∙ ap (λ (n : ℕ). n + 1) world_site.core.ate in
    let meal : new.meal ≡ meal_of plan core.site next = eaten.1 ∙ ap (λ (m : SeenMeal). Some m) (meal_is eaten.0 core.site (state.ate + 1) (forks_in_hand plan core.site next (all_places state)) eaten.2.0 number (eaten.2.2 plan state keeps world_site.core)) in
    subst (λ (k : EventKind). SiteStep plan state k one c.args.world_site.now new links links) (sym c.in-Begin.is)
    (subst (λ (x : Step). SiteStep plan state event.Begin x c.args.world_site.now new links links) same (record {
      site = site;
      stands = record {
        core = (c.begin.ensures.step plan state keeps world_site.core).stands;
        meal = meal ∙ ap (λ (x : ℕ). meal_of plan x next) (sym site);
        outcomes = c.begin.ensures.outcomes ∙ world_site.outcomes ∙ ap (outcomes_of plan) (sym site);
      };
      letters = refl;
    }))

pub end-requires-clause-eating : goal.end-requires-clause-eating
end-requires-clause-eating c = subst (λ (kind : EventKind). can_by_itself c.args.world_site.now.core kind ≡ true) c.in-End.is c.requires.can

pub end-requires-clause-meal : goal.end-requires-clause-meal
end-requires-clause-meal c = c.requires.meal

pub begin-requires-clause-can : goal.begin-requires-clause-can
begin-requires-clause-can c = subst (λ (kind : EventKind). can_by_itself c.args.world_site.now.core kind ≡ true) c.in-Begin.is c.requires.can
