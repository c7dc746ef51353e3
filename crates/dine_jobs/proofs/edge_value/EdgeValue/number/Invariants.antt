use Rattle.std.proofs.Common.{◌≡◌, ◌≤◌, ◌++◌, map, vec_capacity, vec_items, vec_len}
use Rattle.std.specs.Vec.Iter.{into_iter_items}
use Rattle.dine_jobs.specs.EdgeValues.{BelongInOrder}
use Rattle.dine_jobs.specs.declared.edge_value.EdgeValue.{EdgeValue}
use Rattle.dine_jobs.proofs.edge_value.EdgeValue.number.Given as goal

-- the values so far, and those that wait
abbrev pub invariant-loop-edge : goal.invariant-loop-edge
invariant-loop-edge g l = record {
  number : vec_len l.numbered ≡ l.edge;
  room : l.count ≤ vec_capacity l.numbered;
  values : map (λ (it : EdgeValue g.row.T.Denot). it.value) (vec_items l.numbered) ++ into_iter_items l.waiting ≡ vec_items l.fn.values;
  edges : BelongInOrder (vec_items l.numbered);
}
