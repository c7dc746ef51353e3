use Rattle.std.proofs.Common.{rules}
use Rattle.dine_graph.proofs.plans.Plan.other.Goals as goal

pub returns-then-lo-site-clause-other : goal.returns-then-lo-site-clause-other
returns-then-lo-site-clause-other c = search rules

pub returns-then-lo-site-clause-end : goal.returns-then-lo-site-clause-end
returns-then-lo-site-clause-end c = search rules

pub returns-then-lo-site-clause-plan : goal.returns-then-lo-site-clause-plan
returns-then-lo-site-clause-plan c = search rules

pub returns-else-lo-site-clause-other : goal.returns-else-lo-site-clause-other
returns-else-lo-site-clause-other c = search rules

pub returns-else-lo-site-clause-end : goal.returns-else-lo-site-clause-end
returns-else-lo-site-clause-end c = search rules

pub returns-else-lo-site-clause-plan : goal.returns-else-lo-site-clause-plan
returns-else-lo-site-clause-plan c = search rules
