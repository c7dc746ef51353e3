use Rattle.std.proofs.lemmas.Grind.{common_steps}
use Rattle.std.proofs.Common.{arith}
use Rattle.dine_site_thread.proofs.site_end.SiteFaultDisplay.fmt.Goals as goal

pub returns-in-Breach-clause-writes : goal.returns-in-Breach-clause-writes
returns-in-Breach-clause-writes g c = grind (arith, common_steps) steps 2000000
