use Rattle.std.proofs.lemmas.Grind.{elements}
use Rattle.std.proofs.Common.{arith}
use Rattle.dine_threads.proofs.causes.RunCauseFromRefRunFault.from.Goals as goal

pub returns-in-Broken : goal.returns-in-Broken
returns-in-Broken g c = grind (arith, elements) steps 2000000
