use Rattle.std.proofs.Common.{rules}
use Rattle.dine_site.proofs.site.SiteCore.may_hungry.Goals as goal

pub returns-then-not-self-clause-needs : goal.returns-then-not-self-clause-needs
returns-then-not-self-clause-needs c = search rules

pub returns-then-not-self-clause-may : goal.returns-then-not-self-clause-may
returns-then-not-self-clause-may c = search rules

pub returns-else-not-self-clause-needs : goal.returns-else-not-self-clause-needs
returns-else-not-self-clause-needs c = search rules

pub returns-else-not-self-clause-may : goal.returns-else-not-self-clause-may
returns-else-not-self-clause-may c = search rules
