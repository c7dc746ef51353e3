use Rattle.std.proofs.lemmas.Grind.{common_steps}
use Rattle.std.proofs.Common.{arith}
use Rattle.dine_order.proofs.orders.OrderFaultDisplay.fmt.Goals as goal

pub returns-in-Stuck-clause-writes : goal.returns-in-Stuck-clause-writes
returns-in-Stuck-clause-writes g c = grind (arith, common_steps) steps 2000000
