use Rattle.std.proofs.Common.{rules}
use Rattle.dine_site_thread.proofs.diner.JobFaultDisplay.fmt.Goals as goal

pub returns-clause-writes : goal.returns-clause-writes
returns-clause-writes g c = search rules
