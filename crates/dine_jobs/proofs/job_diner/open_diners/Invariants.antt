use Rattle.std.proofs.Common.{◌≡◌, ◌≤◌, ◌++◌, ℕ, Some, map, slice_get, vec_capacity, vec_items, vec_len}
use Rattle.std.specs.Vec.Iter.{into_iter_items}
use Rattle.dine_graph.specs.Plan.{job_count, site_count}
use Rattle.dine_site_thread.specs.CallLogs.{no_calls}
use Rattle.dine_jobs.specs.declared.job_diner.JobDiner.{JobDiner}
use Rattle.dine_jobs.proofs.job_diner.open_diners.Given as goal

-- the diners so far, and the jobs that wait
abbrev pub invariant-loop-site : goal.invariant-loop-site
invariant-loop-site g l = record {
  number : vec_len l.diners ≡ l.site;
  room : site_count l.plan ≤ vec_capacity l.diners;
  jobs : map (λ (diner : JobDiner g.row.T.Denot g.row.J.Denot g.row.K.Denot g.row.J-Fault.Denot g.J.Job g.K.Given). diner.job) (vec_items l.diners) ++ into_iter_items l.waiting ≡ vec_items l.fn.jobs;
  sites : (s : ℕ) (diner : JobDiner g.row.T.Denot g.row.J.Denot g.row.K.Denot g.row.J-Fault.Denot g.J.Job g.K.Given) → slice_get (vec_items l.diners) s ≡ Some diner → diner.site ≡ s;
  expected : (s : ℕ) (diner : JobDiner g.row.T.Denot g.row.J.Denot g.row.K.Denot g.row.J-Fault.Denot g.J.Job g.K.Given) → slice_get (vec_items l.diners) s ≡ Some diner → g.J.Job.expects diner.job l.plan s;
  logs : (s : ℕ) (diner : JobDiner g.row.T.Denot g.row.J.Denot g.row.K.Denot g.row.J-Fault.Denot g.J.Job g.K.Given) → slice_get (vec_items l.diners) s ≡ Some diner → diner.log ≡ no_calls (job_count l.plan s);
}
