use borrow.Author.Rules.{get_or_read}
use Rattle.std.proofs.Common.{rules}
use Rattle.dine_graph.proofs.plans.Plan.ends.Goals as goal

pub returns-clause-ends : goal.returns-clause-ends
returns-clause-ends c = search (rules, get_or_read)

pub returns-clause-plan : goal.returns-clause-plan
returns-clause-plan c = search (rules, get_or_read)
