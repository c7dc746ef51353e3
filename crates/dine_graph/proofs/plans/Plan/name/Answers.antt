use borrow.Author.Rules.{get_or_read}
use Rattle.std.proofs.lemmas.Grind.{elements}
use Rattle.std.proofs.Common.{arith, rules}
use Rattle.dine_graph.proofs.plans.Plan.name.Goals as goal

pub returns-clause-name : goal.returns-clause-name
returns-clause-name c = grind (arith, elements)

pub returns-clause-plan : goal.returns-clause-plan
returns-clause-plan c = search (rules, get_or_read)
