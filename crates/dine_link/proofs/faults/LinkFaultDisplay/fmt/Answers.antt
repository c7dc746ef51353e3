use Rattle.std.proofs.Common.{rules}
use Rattle.dine_link.proofs.faults.LinkFaultDisplay.fmt.Goals as goal

pub returns-clause-writes : goal.returns-clause-writes
returns-clause-writes g c = search rules
