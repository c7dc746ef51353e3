use Rattle.std.proofs.Common.{◌≡◌, ◌≤◌, vec_len, vec_capacity}
use Rattle.dine_link_tests.proofs.links.all_sent.Given as goal

abbrev pub invariant-loop-edge : goal.invariant-loop-edge
invariant-loop-edge g l = (vec_len l.letters ≡ l.edge) × (l.fn.count ≤ vec_capacity l.letters)
