use borrow.Author.Rules.{get_or_read}
use Rattle.std.proofs.Common.{rules}
use Rattle.dine_graph.proofs.plans.Plan.value.Goals as goal

pub returns-clause-value : goal.returns-clause-value
returns-clause-value c = search (rules, get_or_read)

pub returns-clause-plan : goal.returns-clause-plan
returns-clause-plan c = search (rules, get_or_read)
