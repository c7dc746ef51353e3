use Rattle.std.proofs.Common.{◌≡◌, ◌+◌, ◌≤◌, ◌++◌, map, vec_capacity, vec_items, vec_len}
use Rattle.std.specs.Vec.Iter.{into_iter_items, into_iter_len}
use Rattle.dine_jobs.specs.declared.done.SiteDone.{SiteDone}
use Rattle.dine_jobs.proofs.done.jobs_left.Given as goal

-- the jobs so far, and the sites that are left
abbrev pub invariant-loop-left : goal.invariant-loop-left
invariant-loop-left g l =
    let job : SiteDone g.row.J.Denot g.row.F.Denot → g.row.J.Denot = λ left. left.job in
    record {
      room : vec_len l.jobs + into_iter_len l.left-iterator ≤ vec_capacity l.jobs;
      split : vec_items l.jobs ++ map job (into_iter_items l.left-iterator) ≡ map job (vec_items l.fn.sites);
    }
