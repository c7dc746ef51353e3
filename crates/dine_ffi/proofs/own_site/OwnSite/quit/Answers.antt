use Rattle.std.proofs.Common.{refl, subst}
use Rattle.dine_rules.specs.Steps as step
use Rattle.dine_ffi.specs.OwnSites.{SeenOwnSite, SiteSteps}
use Rattle.dine_ffi.proofs.own_site.OwnSite.quit.Goals as goal

pub returns : goal.returns
returns c =
    let own = c.self.inside in
    let new : SeenOwnSite = record { plan = own.plan; run = own.run; core = c.quit.new.self; meal = own.meal; shelf = own.shelf.items } in
    (refl, subst (λ (old : SeenOwnSite). SiteSteps step.Quit old new) c.self.view_is (record { core = c.quit.ensures.step; shelf = refl; plan = refl; run = refl; meal = refl }))
