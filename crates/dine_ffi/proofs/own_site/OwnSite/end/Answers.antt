use Rattle.std.proofs.Common.{◌≡◌, refl, sym, ◌∙◌, ap, subst}
use Rattle.dine_rules.specs.Steps as step
use Rattle.dine_site.specs.Core.{SeenCore, forks_in_hand}
use Rattle.dine_site.specs.Standing.{CoreStep, ForEachState, all_places}
use Rattle.dine_ffi.specs.OwnSites.{SeenOwnSite}
use Rattle.dine_ffi.proofs.own_site.OwnSite.end.Goals as goal

pub returns-in-Some : goal.returns-in-Some
returns-in-Some c =
    let core = ap (λ (site : SeenOwnSite). site.core) c.self.view_is in
    let meal = c.in-Some.meal in (
      refl,
      record {
        ended = meal;
        was = sym (ap (λ (site : SeenOwnSite). site.meal) c.self.view_is) ∙ sym c.take.ensures.value ∙ c.in-Some.is;
        core = subst (λ (core : SeenCore). ForEachState core (λ plan state. meal.forks ≡ forks_in_hand plan core.site state (all_places state) → CoreStep plan state (step.End c.args.failed) core c.end.new.self)) core c.end.ensures.step;
        meal = c.take.ensures.after;
        shelf = ap (λ (site : SeenOwnSite). site.shelf) c.self.view_is;
        plan = ap (λ (site : SeenOwnSite). site.plan) c.self.view_is;
        run = ap (λ (site : SeenOwnSite). site.run) c.self.view_is;
      },
    )
