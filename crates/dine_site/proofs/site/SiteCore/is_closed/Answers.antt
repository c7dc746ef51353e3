use Rattle.std.proofs.Common.{◌∙◌, rules}
use Rattle.dine_site.proofs.shared.lists.Ranges.{closed_by}
use Rattle.dine_site.proofs.site.SiteCore.is_closed.Goals as goal

pub returns-clause-closed : goal.returns-clause-closed
returns-clause-closed c = search rules

pub returns-clause-by_lists : goal.returns-clause-by_lists
returns-clause-by_lists c plan state keeps stands = returns-clause-closed c ∙ closed_by plan state c.args.self.now stands
