use Rattle.std.proofs.Common.{ℕ, ◌<◌, slice_index_or}
use Rattle.dine_token.specs.Fork.{SeenFork, MayEat}
use Rattle.dine_world_tests.proofs.forks.all_may_eat.Given as goal

-- the meal may be eaten with the forks so far
abbrev pub invariant-loop-i : goal.invariant-loop-i
invariant-loop-i l = record {
  may_eat : (n : ℕ) (past : SeenFork) → n < l.i → MayEat l.site l.k (slice_index_or l.hands n past);
}
