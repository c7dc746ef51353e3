use Rattle.std.proofs.Common.{◌≡◌, ◌+◌, ◌≤◌, ◌++◌, map, vec_capacity, vec_items, vec_len}
use Rattle.std.specs.Vec.Iter.{into_iter_items, into_iter_len}
use Rattle.dine_threads.specs.declared.gathered.SiteOut.{SiteOut}
use Rattle.dine_jobs.specs.declared.job_diner.JobDiner.{JobDiner}
use Rattle.dine_jobs.proofs.runs.take_jobs.Given as goal

-- the jobs so far, and the sites that are left
abbrev pub invariant-loop-out : goal.invariant-loop-out
invariant-loop-out g l =
    let job : SiteOut (JobDiner g.row.T.Denot g.row.J.Denot g.row.K.Denot g.row.J-Fault.Denot g.J.Job g.K.Given) → g.row.J.Denot = λ out. out.diner.job in
    record {
      room : vec_len l.jobs + into_iter_len l.out-iterator ≤ vec_capacity l.jobs;
      split : vec_items l.jobs ++ map job (into_iter_items l.out-iterator) ≡ map job (vec_items l.fn.outs);
    }
