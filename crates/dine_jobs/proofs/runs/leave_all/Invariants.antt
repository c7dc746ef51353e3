use Rattle.std.proofs.Common.{◌≡◌, ◌+◌, ◌≤◌, ◌++◌, map, vec_capacity, vec_items, vec_len}
use Rattle.std.specs.Vec.Iter.{into_iter_items, into_iter_len}
use Rattle.dine_threads.specs.declared.gathered.SiteOut.{SiteOut}
use Rattle.dine_jobs.specs.declared.job_diner.JobDiner.{JobDiner}
use Rattle.dine_jobs.specs.declared.done.SiteDone.{SiteDone}
use Rattle.dine_jobs.proofs.runs.leave_all.Given as goal

-- what the sites left so far, and the sites that are left
abbrev pub invariant-loop-out : goal.invariant-loop-out
invariant-loop-out g l =
    let left : SiteOut (JobDiner g.row.T.Denot g.row.J.Denot g.row.K.Denot g.row.J-Fault.Denot g.J.Job g.K.Given) → SiteDone g.row.J.Denot g.row.J-Fault.Denot =
    λ out. record { site = record { 0 = out.diner.site }; job = out.diner.job; log = out.diner.log; failures = out.diner.failures; journal = out.journal; checks = out.checks } in
    record {
      room : vec_len l.sites + into_iter_len l.out-iterator ≤ vec_capacity l.sites;
      split : vec_items l.sites ++ map left (into_iter_items l.out-iterator) ≡ map left (vec_items l.fn.outs);
    }
