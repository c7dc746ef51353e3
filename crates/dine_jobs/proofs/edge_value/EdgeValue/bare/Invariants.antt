use Rattle.std.proofs.Common.{◌≡◌, ◌+◌, ◌≤◌, ◌++◌, map, vec_capacity, vec_items, vec_len}
use Rattle.std.specs.Vec.Iter.{into_iter_items, into_iter_len}
use Rattle.dine_jobs.specs.declared.edge_value.EdgeValue.{EdgeValue}
use Rattle.dine_jobs.proofs.edge_value.EdgeValue.bare.Given as goal

-- the values so far, and those that are left
abbrev pub invariant-loop-it : goal.invariant-loop-it
invariant-loop-it g l =
    let value : EdgeValue g.row.T.Denot → g.row.T.Denot = λ it. it.value in
    record {
      room : vec_len l.plain + into_iter_len l.it-iterator ≤ vec_capacity l.plain;
      split : vec_items l.plain ++ map value (into_iter_items l.it-iterator) ≡ map value (vec_items l.fn.numbered);
    }
