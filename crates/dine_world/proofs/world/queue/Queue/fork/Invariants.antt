use Rattle.std.proofs.Common.{◌≡◌}
use Rattle.std.specs.VecDeque.Iter.{deque_iter_rest}
use Rattle.dine_world.specs.private.Forks.{first_fork}
use Rattle.dine_world.proofs.world.queue.Queue.fork.Given as goal

-- the letters that were passed over have no fork
abbrev pub invariant-loop-letter : goal.invariant-loop-letter
invariant-loop-letter l = first_fork (deque_iter_rest l.letter-iterator) ≡ first_fork l.self
