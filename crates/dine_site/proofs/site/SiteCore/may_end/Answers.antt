use Rattle.std.proofs.Common.{rules}
use Rattle.dine_site.proofs.site.SiteCore.may_end.Goals as goal

pub returns-clause-needs : goal.returns-clause-needs
returns-clause-needs c = search rules

pub returns-clause-may : goal.returns-clause-may
returns-clause-may c = search rules
