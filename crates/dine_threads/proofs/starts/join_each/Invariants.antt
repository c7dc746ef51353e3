use Rattle.std.proofs.Common.{◌≡◌, ◌+◌, ◌≤◌, ◌++◌, vec_len, vec_capacity, vec_items}
use Rattle.std.specs.List.{AllZip}
use Rattle.std.specs.Vec.Iter.{into_iter_items, into_iter_len}
use Rattle.std.specs.declared.thread.PromisedHandle.{PromisedHandle}
use Rattle.dine_threads.proofs.starts.join_each.Given as goal

abbrev pub invariant-loop-child : goal.invariant-loop-child
invariant-loop-child g l = record {
  count : vec_len l.ends + into_iter_len l.child-iterator ≡ vec_len l.fn.children;
  room : vec_len l.ends + into_iter_len l.child-iterator ≤ vec_capacity l.ends;
  split : l.yielded ++ into_iter_items l.child-iterator ≡ vec_items l.fn.children;
  left : AllZip (λ (child : PromisedHandle _ _) end. g.P.Promise.kept_by child.promise end) l.yielded (vec_items l.ends);
}
