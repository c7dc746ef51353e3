use Rattle.std.proofs.Common.{rules}
use Rattle.dine_site.proofs.site.SiteCore.may_close.Goals as goal

pub returns-then-place-2-clause-needs : goal.returns-then-place-2-clause-needs
returns-then-place-2-clause-needs c = search rules

pub returns-then-place-2-clause-may : goal.returns-then-place-2-clause-may
returns-then-place-2-clause-may c = search rules

pub returns-else-place-2-clause-needs : goal.returns-else-place-2-clause-needs
returns-else-place-2-clause-needs c = search rules

pub returns-else-place-2-clause-may : goal.returns-else-place-2-clause-may
returns-else-place-2-clause-may c = search rules
