use Rattle.std.proofs.Common.{rules}
use Rattle.dine_site.proofs.site.SiteCore.has_fork.Goals as goal

pub returns-clause-fork : goal.returns-clause-fork
returns-clause-fork c = search rules

pub returns-clause-by_lists : goal.returns-clause-by_lists
returns-clause-by_lists c = search rules
