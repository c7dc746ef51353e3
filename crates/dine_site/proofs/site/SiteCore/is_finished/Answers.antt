use Rattle.std.proofs.Common.{◌∙◌, rules}
use Rattle.dine_site.proofs.shared.lists.Ranges.{finished_by}
use Rattle.dine_site.proofs.site.SiteCore.is_finished.Goals as goal

pub returns-then-has_nothing_due-clause-finished : goal.returns-then-has_nothing_due-clause-finished
returns-then-has_nothing_due-clause-finished c = search rules

pub returns-then-has_nothing_due-clause-by_lists : goal.returns-then-has_nothing_due-clause-by_lists
returns-then-has_nothing_due-clause-by_lists c plan state keeps stands = returns-then-has_nothing_due-clause-finished c ∙ finished_by plan state c.args.self.now stands
