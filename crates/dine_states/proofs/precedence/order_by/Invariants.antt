use Rattle.std.proofs.Common.{length}
use Rattle.dine_states.proofs.Orders.{IsBegun}
use Rattle.dine_states.proofs.precedence.order_by.Given as goal

abbrev pub invariant-loop-left : goal.invariant-loop-left
invariant-loop-left l = IsBegun l.n l.pairs l.order.items l.left.items

abbrev pub decreases-loop-left : goal.decreases-loop-left
decreases-loop-left l = length l.left.items
