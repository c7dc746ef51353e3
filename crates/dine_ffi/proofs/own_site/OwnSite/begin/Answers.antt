use Rattle.std.proofs.Common.{◌≡◌, refl, ap, subst}
use Rattle.dine_rules.specs.Steps as step
use Rattle.dine_rules.specs.Steps.{after}
use Rattle.dine_site.specs.Core.{SeenCore, forks_in_hand}
use Rattle.dine_site.specs.Standing.{CoreSteps, ForEachState, all_places}
use Rattle.dine_ffi.specs.OwnSites.{SeenOwnSite}
use Rattle.dine_ffi.proofs.own_site.OwnSite.begin.Goals as goal

pub returns : goal.returns
returns c =
    let core = ap (λ (site : SeenOwnSite). site.core) c.self.view_is in (
      refl,
      record {
        core = subst (λ (core : SeenCore). CoreSteps step.Begin core c.begin-meal.new.self) core c.begin-meal.ensures.step;
        begun = c.begin-meal.result;
        meal = c.replace.ensures.after;
        fits = c.begin-meal.ensures.meal;
        forks = subst (λ (core : SeenCore). ForEachState core (λ plan state. c.begin-meal.result.forks ≡ forks_in_hand plan core.site (after plan core.site state step.Begin) (all_places state))) core c.begin-meal.ensures.in_hand;
        shelf = ap (λ (site : SeenOwnSite). site.shelf) c.self.view_is;
        plan = ap (λ (site : SeenOwnSite). site.plan) c.self.view_is;
        run = ap (λ (site : SeenOwnSite). site.run) c.self.view_is;
      },
    )
