use Rattle.std.proofs.Common.{arith}
use Rattle.dine_states.proofs.Orders.{free_by}
use Rattle.dine_states.proofs.precedence.is_free.Goals as goal

pub returns : goal.returns
returns c = free_by c.args.pairs.now c.args.left.now c.args.number c.loop-pair.pair-index (omega (arith, c.loop-pair-test.false)) c.loop-pair.invariant
