use Rattle.std.proofs.Common.{rules}
use Rattle.dine_site.proofs.site.SiteCore.may_quit.Goals as goal

pub returns-then-eq-clause-needs : goal.returns-then-eq-clause-needs
returns-then-eq-clause-needs c = search rules

pub returns-then-eq-clause-may : goal.returns-then-eq-clause-may
returns-then-eq-clause-may c = search rules

pub returns-else-eq-clause-needs : goal.returns-else-eq-clause-needs
returns-else-eq-clause-needs c = search rules

pub returns-else-eq-clause-may : goal.returns-else-eq-clause-may
returns-else-eq-clause-may c = search rules
