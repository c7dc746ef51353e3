use Rattle.std.proofs.Common.{rules}
use Rattle.dine.proofs.fault_lines.FaultFromRunFaultPlanDiner.from.Goals as goal

pub returns-in-Memory : goal.returns-in-Memory
returns-in-Memory c = search rules
