use Rattle.std.proofs.Common.{◌∙◌, rules}
use Rattle.dine_site.proofs.shared.one_site.SiteTests.{done_may}
use Rattle.dine_site.proofs.site.SiteCore.may_done.Goals as goal

pub returns-then-not-place-clause-needs : goal.returns-then-not-place-clause-needs
returns-then-not-place-clause-needs c = search rules

pub returns-then-not-place-clause-may : goal.returns-then-not-place-clause-may
returns-then-not-place-clause-may c plan state keeps stands = returns-then-not-place-clause-needs c ∙ done_may plan state c.args.self.now stands keeps c.args.i c.requires

pub returns-else-not-place-clause-needs : goal.returns-else-not-place-clause-needs
returns-else-not-place-clause-needs c = search rules

pub returns-else-not-place-clause-may : goal.returns-else-not-place-clause-may
returns-else-not-place-clause-may c plan state keeps stands = returns-else-not-place-clause-needs c ∙ done_may plan state c.args.self.now stands keeps c.args.i c.requires
