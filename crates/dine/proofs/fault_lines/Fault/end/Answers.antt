use Rattle.std.proofs.Common.{rules}
use Rattle.dine.proofs.fault_lines.Fault.end.Goals as goal

pub returns-clause-reported : goal.returns-clause-reported
returns-clause-reported g c = search rules
