use Rattle.std.proofs.Common.{rules}
use Rattle.dine_graph.proofs.plans.Plan.edges.Goals as goal

pub returns-clause-count : goal.returns-clause-count
returns-clause-count c = search rules

pub returns-clause-plan : goal.returns-clause-plan
returns-clause-plan c = search rules
