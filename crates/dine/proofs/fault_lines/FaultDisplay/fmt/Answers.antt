use Rattle.std.proofs.Common.{rules}
use Rattle.dine.proofs.fault_lines.FaultDisplay.fmt.Goals as goal

pub returns-in-InputTooLong-clause-writes : goal.returns-in-InputTooLong-clause-writes
returns-in-InputTooLong-clause-writes g c = search rules
