use Rattle.std.proofs.Common.{◌≡◌, length}
use Rattle.dine_world.specs.private.Forks.{behind_fork, first_fork}
use Rattle.dine_world.proofs.world.queue.Queue.remove_fork.Given as goal

-- the letters that were passed over have no fork
abbrev pub invariant-loop-letter : goal.invariant-loop-letter
invariant-loop-letter l = (first_fork l.self ≡ first_fork l.fn.self) × (behind_fork l.self ≡ behind_fork l.fn.self)

abbrev pub decreases-loop-letter : goal.decreases-loop-letter
decreases-loop-letter l = length l.self
