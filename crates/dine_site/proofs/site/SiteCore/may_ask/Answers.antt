use Rattle.std.proofs.Common.{◌∙◌, arith}
use Rattle.std.proofs.lemmas.Grind.{common_steps}
use Rattle.dine_site.proofs.shared.one_site.SiteTests.{ask_may}
use Rattle.dine_site.proofs.site.SiteCore.may_ask.Goals as goal

pub returns-then-eq-clause-needs : goal.returns-then-eq-clause-needs
returns-then-eq-clause-needs c = grind (arith, common_steps)

pub returns-then-eq-clause-may : goal.returns-then-eq-clause-may
returns-then-eq-clause-may c plan state keeps stands = returns-then-eq-clause-needs c ∙ ask_may plan state c.args.self.now stands keeps c.args.i c.requires

pub returns-else-eq-clause-needs : goal.returns-else-eq-clause-needs
returns-else-eq-clause-needs c = grind (arith, common_steps)

pub returns-else-eq-clause-may : goal.returns-else-eq-clause-may
returns-else-eq-clause-may c plan state keeps stands = returns-else-eq-clause-needs c ∙ ask_may plan state c.args.self.now stands keeps c.args.i c.requires
