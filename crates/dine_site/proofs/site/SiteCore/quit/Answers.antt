use Rattle.std.proofs.Common.{refl, ap}
use Rattle.dine_rules.specs.Steps.{Quit}
use Rattle.dine_site.specs.Places.{after_quit}
use Rattle.dine_site.proofs.one_site.CoreSteps.{stepped}
use Rattle.dine_site.proofs.shared.one_site.SiteTests.{may_quit}
use Rattle.dine_site.proofs.shared.one_site.Stands.{stands-after_quit}
use Rattle.dine_site.proofs.site.SiteCore.quit.Goals as goal

pub returns-clause-quit : goal.returns-clause-quit
returns-clause-quit c = ap after_quit c.self.view_is

pub returns-clause-step : goal.returns-clause-step
returns-clause-step c plan state keeps stands =
    let core = c.args.self.now in
    stepped plan state core stands keeps Quit _ _ (returns-clause-quit c) refl tt (may_quit plan state core stands keeps c.requires)
    (stands-after_quit plan state core stands)
