use Rattle.std.proofs.Common.{◌≡◌, ℕ, ◌<◌, false, slice_index_or}
use Rattle.dine_states.specs.Orders.{is_behind}
use Rattle.dine_states.proofs.precedence.is_free.Given as goal

abbrev pub invariant-loop-pair : goal.invariant-loop-pair
invariant-loop-pair l = (k : ℕ) (d : ℕ × ℕ) → k < l.pair-index → is_behind l.left l.number (slice_index_or l.pairs k d) ≡ false
