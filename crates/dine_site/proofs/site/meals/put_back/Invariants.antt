use Rattle.std.proofs.Common.{◌≡◌, ◌≤◌, ◌++◌, length, take, drop, vec_len, vec_capacity}
use Rattle.dine_site.specs.Places.{places_with_forks}
use Rattle.dine_site.proofs.site.meals.put_back.Given as goal

-- so many forks are in hand still: those of the first places
abbrev pub invariant-loop-hands : goal.invariant-loop-hands
invariant-loop-hands l = (l.hands.items ≡ take (length l.hands.items) l.fn.hands.items)
    × (l.places ≡ take (length l.hands.items) l.fn.places ++ places_with_forks (drop (length l.hands.items) l.fn.places) (drop (length l.hands.items) l.fn.hands.items))
    × (length l.hands.items ≤ length l.fn.places) × (vec_capacity l.hands ≡ vec_capacity l.fn.hands)

abbrev pub decreases-loop-hands : goal.decreases-loop-hands
decreases-loop-hands l = vec_len l.hands
