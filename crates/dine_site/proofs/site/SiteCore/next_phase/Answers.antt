use Rattle.std.proofs.Common.{rules}
use Rattle.dine_site.proofs.site.SiteCore.next_phase.Goals as goal

pub returns-then-may_hungry : goal.returns-then-may_hungry
returns-then-may_hungry c = search rules

pub returns : goal.returns
returns c = search rules
