use Rattle.std.proofs.Common.{◌≤◌, length}
use Rattle.dine_link_tests.proofs.links.waits.put_five.Given as goal

abbrev pub invariant-loop-edge : goal.invariant-loop-edge
invariant-loop-edge g l = length (g.L.Lane.seen_tx l.tx).letters ≤ l.edge
