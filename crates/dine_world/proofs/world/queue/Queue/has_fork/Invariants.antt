use Rattle.std.proofs.Common.{◌≡◌}
use Rattle.std.specs.VecDeque.Iter.{deque_iter_rest}
use Rattle.dine_rules.specs.Letters.{forks_in}
use Rattle.dine_world.proofs.world.queue.Queue.has_fork.Given as goal

-- the letters that were passed over have no fork
abbrev pub invariant-loop-letter : goal.invariant-loop-letter
invariant-loop-letter l = forks_in (deque_iter_rest l.letter-iterator) ≡ forks_in l.self
