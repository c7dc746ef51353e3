use Rattle.std.proofs.Common.{◌≡◌}
use Rattle.dine.proofs.arguments.list_of.Given as goal

-- the list has the arguments so far
abbrev pub invariant-loop-argument : goal.invariant-loop-argument
invariant-loop-argument l = l.list.items ≡ l.yielded
