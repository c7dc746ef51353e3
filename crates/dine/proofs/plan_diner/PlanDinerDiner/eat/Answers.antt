use Rattle.std.proofs.Common.{rules}
use Rattle.dine.proofs.plan_diner.PlanDinerDiner.eat.Goals as goal

pub returns-clause-calls : goal.returns-clause-calls
returns-clause-calls c = search rules

pub returns-clause-fits : goal.returns-clause-fits
returns-clause-fits c = search rules
