use Rattle.std.proofs.Common.{◌∙◌, arith}
use Rattle.std.proofs.lemmas.Grind.{common_steps}
use Rattle.dine_site.proofs.shared.one_site.SiteTests.{give_may}
use Rattle.dine_site.proofs.site.SiteCore.may_give.Goals as goal

pub returns-then-ne-clause-needs : goal.returns-then-ne-clause-needs
returns-then-ne-clause-needs c = grind (arith, common_steps)

pub returns-then-ne-clause-may : goal.returns-then-ne-clause-may
returns-then-ne-clause-may c plan state keeps stands = returns-then-ne-clause-needs c ∙ give_may plan state c.args.self.now stands keeps c.args.i c.requires

pub returns-else-ne-clause-needs : goal.returns-else-ne-clause-needs
returns-else-ne-clause-needs c = grind (arith, common_steps)

pub returns-else-ne-clause-may : goal.returns-else-ne-clause-may
returns-else-ne-clause-may c plan state keeps stands = returns-else-ne-clause-needs c ∙ give_may plan state c.args.self.now stands keeps c.args.i c.requires
