use Rattle.std.proofs.Common.{rules}
use Rattle.dine_builder.proofs.drafts.PlanBuilder.set_failing.Goals as goal

pub returns-in-Some-clause-changed : goal.returns-in-Some-clause-changed
returns-in-Some-clause-changed c = search rules
