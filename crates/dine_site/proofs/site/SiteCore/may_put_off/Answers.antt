use Rattle.std.proofs.Common.{◌∙◌, rules}
use Rattle.dine_site.proofs.shared.own_events.WantsByLists.{put_off_by_lists}
use Rattle.dine_site.proofs.site.SiteCore.may_put_off.Goals as goal

pub returns-clause-test : goal.returns-clause-test
returns-clause-test c = search rules

pub returns-clause-by_lists : goal.returns-clause-by_lists
returns-clause-by_lists c plan state keeps stands = returns-clause-test c ∙ put_off_by_lists plan state c.args.self.now keeps stands c.args.i c.requires
