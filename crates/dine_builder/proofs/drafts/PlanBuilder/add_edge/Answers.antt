use Rattle.std.proofs.Common.{rules}
use Rattle.dine_builder.proofs.drafts.PlanBuilder.add_edge.Goals as goal

pub returns-clause-changed : goal.returns-clause-changed
returns-clause-changed c = search rules
