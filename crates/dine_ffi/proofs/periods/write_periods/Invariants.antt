use Rattle.std.proofs.Common.{◌≡◌, take}
use Rattle.dine_ffi.specs.Written.{fork_periods, over_front, period_numbers}
use Rattle.dine_ffi.proofs.periods.write_periods.Given as goal

-- the first i periods are written
abbrev pub invariant-loop-i : goal.invariant-loop-i
invariant-loop-i l = l.out ≡ over_front (period_numbers (take l.i (fork_periods l.fork))) l.initial.out
