use Rattle.std.proofs.Common.{rules}
use Rattle.dine_draft.proofs.plan_fault.PlanFaultFromAllocError.from.Goals as goal

pub returns : goal.returns
returns c = search rules
