use Rattle.std.proofs.Common.{◌≡◌}
use Rattle.std.specs.VecDeque.Iter.{deque_iter_rest}
use Rattle.dine_rules.specs.Letters.{requests_in}
use Rattle.dine_world.proofs.world.queue.Queue.has_request.Given as goal

-- the letters that were passed over have no request
abbrev pub invariant-loop-letter : goal.invariant-loop-letter
invariant-loop-letter l = requests_in (deque_iter_rest l.letter-iterator) ≡ requests_in l.self
