use Rattle.std.proofs.Common.{refl, ap}
use Rattle.std.proofs.lemmas.Bool.{and_parts}
use Rattle.dine_rules.specs.Steps.{Hungry}
use Rattle.dine_site.specs.Places.{after_hungry}
use Rattle.dine_site.proofs.one_site.CoreSteps.{stepped}
use Rattle.dine_site.proofs.shared.one_site.SiteTests.{may_hunger}
use Rattle.dine_site.proofs.shared.one_site.Stands.{stands-after_hungry}
use Rattle.dine_site.proofs.site.SiteCore.hungry.Goals as goal

pub returns-clause-hungry : goal.returns-clause-hungry
returns-clause-hungry c = ap after_hungry c.self.view_is

pub returns-clause-step : goal.returns-clause-step
returns-clause-step c plan state keeps stands =
    let core = c.args.self.now in
    stepped plan state core stands keeps Hungry _ _ (returns-clause-hungry c) refl tt (may_hunger plan state core stands keeps c.requires)
    (stands-after_hungry plan state core stands (and_parts _ _ (and_parts _ _ c.requires).0).0)
