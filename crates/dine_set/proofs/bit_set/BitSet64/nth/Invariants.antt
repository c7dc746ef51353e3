-- What is wanted of the whole set is the element `left` of the rest.
use Rattle.std.proofs.Common.{◌≡◌}
use Rattle.dine_set.specs.Marks.{nth_position}
use Rattle.dine_set.proofs.bit_set.BitSet64.nth.Given as goal

abbrev pub invariant-loop-i : goal.invariant-loop-i
invariant-loop-i l = nth_position (λ b. b) l.fn.n l.self ≡ nth_position (λ b. b) l.left l.rest

abbrev pub decreases-loop-i : goal.decreases-loop-i
decreases-loop-i l = l.left
