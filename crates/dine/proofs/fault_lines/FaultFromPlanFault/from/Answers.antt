use Rattle.std.proofs.Common.{sym}
use Rattle.dine.proofs.ReadingFaults.{is_no_plan}
use Rattle.dine.proofs.fault_lines.FaultFromPlanFault.from.Goals as goal

pub returns-in_default : goal.returns-in_default
returns-in_default c = sym (is_no_plan c.args.fault c.in_default.not-Memory)
