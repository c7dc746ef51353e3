use Rattle.std.proofs.Common.{◌≡◌, ◌+◌, ◌≤◌, ◌++◌, All, map, vec_len, vec_capacity, vec_items}
use Rattle.std.specs.Vec.Iter.{into_iter_items, into_iter_len}
use Rattle.dine_threads.specs.private.SiteStarts.{IsReady, given_to}
use Rattle.dine_threads.proofs.starts.start_all.Given as goal

abbrev pub invariant-loop-start : goal.invariant-loop-start
invariant-loop-start g l = record {
  len : vec_len l.children ≡ l.started;
  within : l.started ≤ l.fn.threads;
  count : l.started + into_iter_len l.start-iterator ≡ vec_len l.fn.starts;
  room : vec_len l.fn.starts ≤ vec_capacity l.children;
  ready : All (IsReady g.L.Lane g.D.Diner) (into_iter_items l.start-iterator);
  split : map given_to (vec_items l.children) ++ into_iter_items l.start-iterator ≡ vec_items l.fn.starts;
}
