use Rattle.std.proofs.Common.{◌≡◌, ◌+◌, ◌<◌, ◌^◌, ◌++◌, length, vec_items}
use Rattle.std.specs.Vec.Iter.{into_iter_items, into_iter_len}
use Rattle.dine_link.specs.Links.{with_letters}
use Rattle.dine_link_tests.proofs.links.exchange.put_each.Given as goal

abbrev pub invariant-loop-letter : goal.invariant-loop-letter
invariant-loop-letter g l = record {
  put : g.L.Lane.seen_tx l.tx ≡ with_letters l.yielded (g.L.Lane.seen_tx l.initial.tx);
  room : length (g.L.Lane.seen_tx l.tx).letters + into_iter_len l.letter-iterator < 2 ^ 61;
  split : l.yielded ++ into_iter_items l.letter-iterator ≡ vec_items l.fn.letters;
}
