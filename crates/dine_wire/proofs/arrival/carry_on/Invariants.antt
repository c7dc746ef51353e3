use Rattle.std.proofs.Common.{◌≡◌, ◌≤◌, [], vec_capacity}
use Rattle.dine_wire.specs.Arrivals.{eaten_on}
use Rattle.dine_wire.proofs.arrival.carry_on.Given as goal

-- the fork after i meals; no fork is in `hands`, which has capacity for one
abbrev pub invariant-loop-i : goal.invariant-loop-i
invariant-loop-i l = (l.fork ≡ eaten_on l.initial.plan l.fn.fork l.i) × (l.hands.items ≡ []) × (1 ≤ vec_capacity l.hands)
