use Rattle.std.proofs.Common.{◌∙◌, rules}
use Rattle.dine_site.proofs.shared.own_events.WantsByLists.{away_by_lists}
use Rattle.dine_site.proofs.site.SiteCore.missing_forks.Goals as goal

pub returns-clause-count : goal.returns-clause-count
returns-clause-count c = search rules

pub returns-clause-by_lists : goal.returns-clause-by_lists
returns-clause-by_lists c plan state keeps stands = returns-clause-count c ∙ away_by_lists plan state c.args.self.now keeps stands
