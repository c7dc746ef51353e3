use Rattle.std.proofs.Common.{arith}
use Rattle.dine_token.proofs.shared.Forks.{moves-fork}
use Rattle.dine_wire.proofs.arrival.is_moved_once.Goals as goal

pub overflow_add-moves : goal.overflow_add-moves
overflow_add-moves c = omega (arith, c.moves.ensures.moves, moves-fork c.args.fork.now c.moves.ensures.proper)
