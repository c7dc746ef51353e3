use Rattle.std.proofs.Common.{◌-◌}
use Rattle.dine_token.specs.Periods.{periods_of}
use Rattle.dine_token.proofs.Places.{IsBetween}
use Rattle.dine_token.proofs.fork.Fork.period_with.Given as goal

-- the entry is in one of the periods from `low` on, and before `high`
abbrev pub invariant-loop-low : goal.invariant-loop-low
invariant-loop-low l = IsBetween (periods_of l.self.ends.0 l.self.log) l.i l.low l.high

abbrev pub decreases-loop-low : goal.decreases-loop-low
decreases-loop-low l = l.high - l.low
