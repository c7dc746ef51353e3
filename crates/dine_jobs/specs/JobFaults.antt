-- Why there is nothing left of a run of jobs, what is returned with it, and the words for it; and the words for why a
-- value was not opened.
use Rattle.std.specs.Prelude.{◌≡◌, ◌≢◌, ◌<◌, ◌++◌, ℕ, List, codes, vec_len}
use Rattle.std.specs.Fmt.{decimal}
use Rattle.std.specs.Global.{Vec}
use Rattle.dine_graph.specs.Plan.{SeenPlan, edge_count, site_count}
use Rattle.dine_site_thread.specs.declared.site_end.SiteFault.TheVariants as site_fault
use Rattle.dine_threads.specs.Causes.{cause_words}
use Rattle.dine_threads.specs.declared.causes.RunCause.{RunCause}
use Rattle.dine_threads.specs.declared.causes.RunCause.TheVariants as run_cause
use Rattle.dine_jobs.specs.declared.done.JobsCause.{JobsCause}
use Rattle.dine_jobs.specs.declared.done.JobsCause.TheVariants.{ValuesDiffer, JobsDiffer, Memory, Run, Bell, Kept, Executor}
use Rattle.dine_jobs.specs.declared.done.JobsFault.{JobsFault}
use Rattle.dine_jobs.specs.declared.table.OpenFault.{OpenFault}
use Rattle.dine_jobs.specs.declared.table.OpenFault.TheVariants.{NoEdge, Open}

-- there is a value for each edge and a job for each site
abbrev pub AreAsMany : {T J : Type 0} → SeenPlan → Vec T → Vec J → Type 0
AreAsMany plan values jobs = (vec_len values ≡ edge_count plan) × (vec_len jobs ≡ site_count plan)

-- if all sites had joined, there is a job for each site
abbrev pub HasJobsBack : {J : Type 0} → SeenPlan → RunCause → Vec J → Type 0
HasJobsBack plan (run_cause.Broken site fault) jobs = vec_len jobs ≡ site_count plan
HasJobsBack plan cause jobs = Unit {0}

-- this cause of a run is not a bell that refused
abbrev pub NamesNoBell : RunCause → Type 0
NamesNoBell cause = (site degree : ℕ) → cause ≢ run_cause.Broken site (site_fault.LostBell degree)

-- the cause of a run of jobs, by the cause of its run: if a bell refused, the site, and else the cause of the run
abbrev pub cause_of_run : RunCause → JobsCause
cause_of_run (run_cause.Broken site (site_fault.LostBell degree)) = Bell site
cause_of_run cause = Run cause

-- When each cause is reported, and what is returned with it: if the run was out of memory or failed, a value for each
-- edge, and if a site ended with a fault, the job of each site. Only open runs report `Executor`.
abbrev pub HasCause : {T J : Type 0} → SeenPlan → Vec T → Vec J → JobsCause → JobsFault T J → Type 0
HasCause plan values jobs (ValuesDiffer given edges) fault = (given ≡ vec_len values) × (edges ≡ edge_count plan) × (given ≢ edges) × (fault.values ≡ values) × (fault.jobs ≡ jobs)
HasCause plan values jobs (JobsDiffer given sites) fault = (vec_len values ≡ edge_count plan) × (given ≡ vec_len jobs) × (sites ≡ site_count plan) × (given ≢ sites) × (fault.values ≡ values) × (fault.jobs ≡ jobs)
HasCause plan values jobs Memory fault = AreAsMany plan values jobs × (vec_len fault.values ≡ edge_count plan)
HasCause plan values jobs (Run cause) fault = AreAsMany plan values jobs × (vec_len fault.values ≡ edge_count plan) × NamesNoBell cause × HasJobsBack plan cause fault.jobs
HasCause plan values jobs (Bell site) fault = AreAsMany plan values jobs × (vec_len fault.values ≡ edge_count plan) × (site < site_count plan) × (vec_len fault.jobs ≡ site_count plan)
HasCause plan values jobs Kept fault = AreAsMany plan values jobs
HasCause plan values jobs Executor fault = ⊥

-- the fault has its own cause, as `HasCause` says
abbrev pub IsFaultOf : {T J : Type 0} → SeenPlan → Vec T → Vec J → JobsFault T J → Type 0
IsFaultOf plan values jobs fault = HasCause plan values jobs fault.cause fault

-- the words for how many were given and how many were wanted
abbrev pub counts_words : ℕ → ℕ → List ℕ
counts_words given wanted = codes "given " ++ decimal given ++ codes ", wanted " ++ decimal wanted

-- the words for the cause
abbrev pub jobs_cause_words : JobsCause → List ℕ
jobs_cause_words (ValuesDiffer given edges) = codes "run refused: values " ++ counts_words given edges
jobs_cause_words (JobsDiffer given sites) = codes "run refused: jobs " ++ counts_words given sites
jobs_cause_words Memory = codes "out of memory"
jobs_cause_words (Run cause) = cause_words cause
jobs_cause_words (Bell site) = codes "run broken at site " ++ decimal site ++ codes ": Lost on a bell"
jobs_cause_words Kept = codes "a thread kept the values"
jobs_cause_words Executor = codes "the executor is not of this run alone"

-- the words for why a value was not opened
abbrev pub open_fault_words : OpenFault → List ℕ
open_fault_words NoEdge = codes "the site has no such edge"
open_fault_words Open = codes "the value is open already"
