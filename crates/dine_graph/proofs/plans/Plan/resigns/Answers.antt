use borrow.Author.Tests.{tests}
use borrow.Author.Rules.{get_or_read}
use Rattle.std.proofs.lemmas.Grind.{elements}
use Rattle.std.proofs.Common.{arith, rules}
use Rattle.dine_graph.proofs.plans.Plan.resigns.Goals as goal

pub returns-clause-policy : goal.returns-clause-policy
returns-clause-policy c = grind (arith, elements)

pub returns-clause-plan : goal.returns-clause-plan
returns-clause-plan c = search (tests, rules, get_or_read)
