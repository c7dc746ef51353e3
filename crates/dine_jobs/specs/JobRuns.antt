-- What the jobs of a run did, each in its meals, one after the other, and what is left of the run.
use Rattle.std.specs.Prelude.{◌≡◌, ◌⊎◌, ℕ, Bool, true, List, [], ◌∷◌, filter, length, map, not, slice_get, vec_len, Some}
use Rattle.std.specs.Global.{Vec}
use Rattle.dine_token.specs.Lawful.{count_from}
use Rattle.dine_graph.specs.Plan.{SeenPlan, edge_count, job_count, resigns, site_count}
use Rattle.dine_link.specs.Links.{SeenLink}
use Rattle.dine_site_thread.specs.declared.manner.Manner.{Manner}
use Rattle.dine_site_thread.specs.Doings.{empty_checks_of}
use Rattle.dine_site_thread.specs.Diners.{HasLastFailed, ObeysFailures, meals_called}
use Rattle.dine_site_thread.specs.declared.diner.Call.{Call}
use Rattle.dine_threads.specs.Runs.{IsWholeRun}
use Rattle.dine_jobs.specs.EdgeValues.{BelongInOrder}
use Rattle.dine_jobs.specs.JobFaults.{AreAsMany}
use Rattle.dine_jobs.specs.declared.done.JobsDone.{JobsDone}
use Rattle.dine_jobs.specs.declared.done.SiteDone.{SiteDone}
use Rattle.dine_jobs.specs.declared.job.Failure.{Failure}

-- The job went from `first` to `last` by these calls, one after the other, each as `after` says: the job before it, the
-- number of the meal, whether it went well, and the job after it.
abbrev pub HasRun : {J : Type 0} → (J → ℕ → Bool → J → Type 0) → J → List Call → J → Type 0
HasRun after first [] last = last ≡ first
HasRun {J = J} after first (call ∷ calls) last = (next : J) × after first call.k call.ok next × HasRun after next calls last

-- the numbers of the calls that failed, in order
abbrev pub failed_numbers : List Call → List ℕ
failed_numbers calls = meals_called (filter (λ (call : Call). not call.ok) calls)

-- the numbers of these failures, in order
abbrev pub numbers_of : {F : Type 0} → List (Failure F) → List ℕ
numbers_of failures = map (λ (failure : Failure _). failure.k) failures

module _ {J F : Type 0} (after : J → ℕ → Bool → J → Type 0) (manner : Manner) (plan : SeenPlan) where
  -- The job that was given for site s was called for the meals 1, 2, 3, .. once each and in this order, for all of the
  -- site's meals, or up to one that failed if the site resigns. If the site resigns, no call follows one that failed.
  -- If its journal shows that it quit, it resigns, and its last call failed. `∥ .. ∥₁` says that there are such states
  -- of the job.
  -- The bell of the site has noted just the empty checks that go with the manner and the journal: none, or one for each
  -- meal. What is left names the site.
  pub record IsDoneBy (s : ℕ) (given : J) (left : SiteDone J F) : Type 0 where
    pub in_order : meals_called left.log.calls ≡ count_from 1 (length left.log.calls)
    pub all : (length left.log.calls ≡ job_count plan s) ⊎ ((resigns plan s ≡ true) × HasLastFailed [] left.log.calls)
    pub obeys : ObeysFailures (resigns plan s) left.journal.items [] left.log.calls
    pub ran : ∥ HasRun after given left.log.calls left.job ∥₁
    pub failures : numbers_of left.failures.items ≡ failed_numbers left.log.calls
    pub checks : left.checks.at ≡ empty_checks_of manner left.journal.items
    pub names : left.site.0 ≡ s

  -- `IsDoneBy` holds of each site, in order
  pub record AreDoneBy (given : List J) (left : List (SiteDone J F)) : Type 0 where
    pub count : length left ≡ site_count plan
    pub each : (s : ℕ) (job : J) (site : SiteDone J F) → slice_get given s ≡ Some job → slice_get left s ≡ Some site → IsDoneBy s job site

-- What is left of a run of jobs that went well. There was a value for each edge and a job for each site, and as many
-- are returned: value e is the one of edge e. Each job was done as `IsDoneBy` says. There is one set of links of which,
-- with the forks, the journals and one meal for each call of a job, `IsWholeRun` holds, as it holds of a run of diners.
-- The definition does not say what a job did to a value, nor that a value was free when it was asked for.
pub record IsDoneRun {T J F : Type 0} (after : J → ℕ → Bool → J → Type 0) (manner : Manner) (plan : SeenPlan) (values : Vec T) (jobs : Vec J) (done : JobsDone T J F) : Type 0 where
  pub many : AreAsMany plan values jobs
  pub values_back : vec_len done.values ≡ edge_count plan
  pub values_belong : BelongInOrder done.values.items
  pub sites : AreDoneBy after manner plan jobs.items done.sites.items
  pub links : List SeenLink
  pub whole : IsWholeRun manner plan (map (λ (left : SiteDone J F). length left.log.calls) done.sites.items) links done.forks.items
      (map (λ (left : SiteDone J F). left.journal.items) done.sites.items)
