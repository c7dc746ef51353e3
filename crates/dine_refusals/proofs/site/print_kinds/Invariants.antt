use Rattle.std.proofs.Common.{◌≤◌, length}
use Rattle.dine_refusals.proofs.site.print_kinds.Given as goal

-- a letter was taken each time, at most
abbrev pub invariant-loop-taken : goal.invariant-loop-taken
invariant-loop-taken g l = length (g.L.Lane.seen_rx l.letters).letters ≤ l.taken
