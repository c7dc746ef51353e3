use Rattle.std.proofs.Common.{rules}
use Rattle.dine_site.proofs.site.SiteCore.has_token.Goals as goal

pub returns-clause-token : goal.returns-clause-token
returns-clause-token c = search rules

pub returns-clause-by_lists : goal.returns-clause-by_lists
returns-clause-by_lists c = search rules
