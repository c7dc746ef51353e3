use Rattle.std.proofs.Common.{◌∙◌, arith}
use Rattle.std.proofs.lemmas.Grind.{common_steps}
use Rattle.dine_site.proofs.shared.lists.Ranges.{begin_by}
use Rattle.dine_site.proofs.site.SiteCore.may_begin.Goals as goal

pub returns-then-eq-clause-needs : goal.returns-then-eq-clause-needs
returns-then-eq-clause-needs c = grind (arith, common_steps)

pub returns-then-eq-clause-may : goal.returns-then-eq-clause-may
returns-then-eq-clause-may c plan state keeps stands = returns-then-eq-clause-needs c ∙ begin_by plan state c.args.self.now stands keeps
