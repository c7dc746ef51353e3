use Rattle.std.proofs.lemmas.Grind.{elements}
use Rattle.std.proofs.Common.{arith, rules}
use Rattle.dine_graph.proofs.plans.Plan.sites.Goals as goal

pub returns-clause-count : goal.returns-clause-count
returns-clause-count c = grind (arith, elements)

pub returns-clause-plan : goal.returns-clause-plan
returns-clause-plan c = search rules
