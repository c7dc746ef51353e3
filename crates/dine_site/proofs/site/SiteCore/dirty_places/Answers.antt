use Rattle.std.proofs.Common.{◌∙◌, rules}
use Rattle.dine_site.proofs.shared.own_events.WantsByLists.{dirty_by_lists}
use Rattle.dine_site.proofs.site.SiteCore.dirty_places.Goals as goal

pub returns-clause-marks : goal.returns-clause-marks
returns-clause-marks c = search rules

pub returns-clause-by_lists : goal.returns-clause-by_lists
returns-clause-by_lists c plan state keeps stands = returns-clause-marks c ∙ dirty_by_lists plan state c.args.self.now keeps stands
