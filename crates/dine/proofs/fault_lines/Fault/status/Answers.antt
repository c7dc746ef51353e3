use Rattle.std.proofs.Common.{rules}
use Rattle.dine.proofs.fault_lines.Fault.status.Goals as goal

pub returns-in-RunFailed : goal.returns-in-RunFailed
returns-in-RunFailed c = search rules
