use Rattle.std.proofs.lemmas.Grind.{common_steps}
use Rattle.std.proofs.Common.{arith}
use Rattle.dine_builder.proofs.drafts.PlanBuilder.set_value.Goals as goal

pub returns-clause-changed : goal.returns-clause-changed
returns-clause-changed c = grind (arith, common_steps) steps 2000000
