use Rattle.std.proofs.Common.{rules}
use Rattle.dine_graph.proofs.plans.Plan.version.Goals as goal

pub returns-clause-version : goal.returns-clause-version
returns-clause-version c = search rules

pub returns-clause-plan : goal.returns-clause-plan
returns-clause-plan c = search rules
