use Rattle.std.proofs.Common.{rules}
use Rattle.dine_threads.proofs.causes.RunCauseDisplay.fmt.Goals as goal

pub returns-in-Thread-clause-writes : goal.returns-in-Thread-clause-writes
returns-in-Thread-clause-writes g c = search rules
