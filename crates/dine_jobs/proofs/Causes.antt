-- The cause of a run of jobs, by the cause of its run.
use Rattle.std.proofs.Common.{◌≡◌, ◌<◌, ℕ, refl, ap, arith}
use Rattle.std.specs.Prelude.{vec_len}
use Rattle.std.specs.Global.{Vec}
use Rattle.dine_graph.specs.Plan.{SeenPlan, edge_count, site_count}
use Rattle.dine_site_thread.specs.declared.diner.Diner as diners
use Rattle.dine_site_thread.specs.declared.manner.Manner.{Manner}
use Rattle.dine_site_thread.specs.declared.site_end.SiteFault.{SiteFault}
use Rattle.dine_site_thread.specs.declared.site_end.SiteFault.TheVariants as site_fault
use Rattle.dine_threads.specs.Causes.{cause_of}
use Rattle.dine_threads.specs.Headline.{FaultIs}
use Rattle.dine_threads.specs.declared.causes.RunCause.{RunCause}
use Rattle.dine_threads.specs.declared.causes.RunCause.TheVariants as run_cause
use Rattle.dine_threads.specs.declared.gathered.Gathered.{Gathered}
use Rattle.dine_threads.specs.declared.gathered.RunFault.{RunFault}
use Rattle.dine_threads.specs.declared.gathered.RunFault.TheVariants as run
use Rattle.dine_jobs.specs.JobFaults.{AreAsMany, HasCause, HasJobsBack, cause_of_run}
use Rattle.dine_jobs.specs.declared.done.JobsFault.{JobsFault}

abbrev site_named : RunCause → ℕ
site_named (run_cause.Broken site fault) = site
site_named cause = 0

-- a site that a fault of `run` names as broken is one of the plan
pub in_plan : {D : Type 0} (eater : diners.Ghosts D) (manner : Manner) (plan : SeenPlan) (given : Vec D) (returned : RunFault D) → FaultIs eater manner plan given returned
    → (site : ℕ) (fault : SiteFault) → cause_of returned ≡ run_cause.Broken site fault → site < site_count plan
in_plan eater manner plan given (run.DinersDiffer many back) is site fault same = absurd cc
in_plan eater manner plan given run.Memory is site fault same = absurd cc
in_plan eater manner plan given (run.Thread at) is site fault same = absurd cc
in_plan eater manner plan given (run.Broken at joined) is site fault same = (let here : at ≡ site = ap site_named same in omega (arith, is.2.count, is.3.within, here))

-- if the threads of a run that failed had joined, the jobs that were taken from its sites are as many as sites
pub jobs_back_of : {D J : Type 0} (eater : diners.Ghosts D) (manner : Manner) (plan : SeenPlan) (given : Vec D) (jobs : Vec J) (returned : RunFault D) → FaultIs eater manner plan given returned
    → ((site : ℕ) (joined : Gathered D) → returned ≡ run.Broken site joined → vec_len jobs ≡ vec_len joined.sites) → HasJobsBack plan (cause_of returned) jobs
jobs_back_of eater manner plan given jobs (run.DinersDiffer many back) is taken = tt
jobs_back_of eater manner plan given jobs run.Memory is taken = tt
jobs_back_of eater manner plan given jobs (run.Thread at) is taken = tt
jobs_back_of eater manner plan given jobs (run.Broken at joined) is taken = omega (arith, taken at joined refl, joined.sites.ok.0, is.2.count)

module _ {T J : Type 0} (plan : SeenPlan) (values : Vec T) (jobs : Vec J) (fault : JobsFault T J) (many : AreAsMany plan values jobs) (back : vec_len fault.values ≡ edge_count plan) where
  pub cause_holds : (cause : RunCause) → ((site : ℕ) (fault : SiteFault) → cause ≡ run_cause.Broken site fault → site < site_count plan) → HasJobsBack plan cause fault.jobs → HasCause plan values jobs (cause_of_run cause) fault
  cause_holds run_cause.DinersDiffer within jobs_back = (many, back, λ site degree same. absurd cc, jobs_back)
  cause_holds run_cause.Memory within jobs_back = (many, back, λ site degree same. absurd cc, jobs_back)
  cause_holds (run_cause.Thread at) within jobs_back = (many, back, λ site degree same. absurd cc, jobs_back)
  cause_holds (run_cause.Broken at (site_fault.Breach link breach)) within jobs_back = (many, back, λ site degree same. absurd cc, jobs_back)
  cause_holds (run_cause.Broken at (site_fault.Lost link)) within jobs_back = (many, back, λ site degree same. absurd cc, jobs_back)
  cause_holds (run_cause.Broken at (site_fault.LostBell degree)) within jobs_back = (many, back, within at (site_fault.LostBell degree) refl, jobs_back)
  cause_holds (run_cause.Broken at site_fault.NotStarted) within jobs_back = (many, back, λ site degree same. absurd cc, jobs_back)
  cause_holds (run_cause.Broken at site_fault.Memory) within jobs_back = (many, back, λ site degree same. absurd cc, jobs_back)
