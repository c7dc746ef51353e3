use Rattle.std.proofs.Common.{◌≡◌, ◌≤◌, vec_len, vec_items, vec_capacity}
use Rattle.dine_link_tests.proofs.links.exchange.take_many.Given as goal

abbrev pub invariant-loop : goal.invariant-loop
invariant-loop g l = record {
  link : (g.L.Lane.seen_rx l.rx).link ≡ (g.L.Lane.seen_rx l.initial.rx).link;
  letters : (g.L.Lane.seen_rx l.rx).letters ≡ vec_items l.taken;
  count : vec_len l.taken ≡ l.counter;
  room : l.fn.count ≤ vec_capacity l.taken;
}
