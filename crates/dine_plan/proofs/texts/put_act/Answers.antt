use Rattle.std.proofs.Common.{rules}
use Rattle.dine_plan.proofs.texts.put_act.Goals as goal

pub returns-in-Add : goal.returns-in-Add
returns-in-Add c = search rules
