-- Rounds of a plan's jobs, and the calls of the caller's step between them.
use Rattle.std.specs.Prelude.{◌≡◌, ℕ, zero, suc, ◌+◌, Bool, List, map}
use Rattle.std.specs.Borrow.{MutBor}
use Rattle.std.specs.Global.{Vec}
use Rattle.dine_graph.specs.Plan.{SeenPlan}
use Rattle.dine_site_thread.specs.declared.manner.Manner.TheVariants.{Patient}
use Rattle.dine_jobs.specs.declared.done.JobsDone.{JobsDone}
use Rattle.dine_jobs.specs.declared.done.SiteDone.{SiteDone}
use Rattle.dine_jobs.specs.declared.edge_value.EdgeValue.{EdgeValue}
use Rattle.dine_jobs.specs.JobRuns.{IsDoneRun}

-- a run of these values and jobs that went well, with sites of patience 64, left these values and jobs; F is what a
-- failed job returns
pub record IsRoundOf {T J : Type 0} (F : Type 0) (after : J → ℕ → Bool → J → Type 0) (plan : SeenPlan) (values : Vec T) (jobs : Vec J) (values_left : List T) (jobs_left : List J) : Type 0 where
  pub left : JobsDone T J F
  pub ran : IsDoneRun after (Patient 64) plan values jobs left
  pub values_back : values_left ≡ map (λ (it : EdgeValue T). it.value) left.values.items
  pub jobs_back : jobs_left ≡ map (λ (site : SiteDone J F). site.job) left.sites.items

-- a call of the step for round k, given these values and jobs, may leave the next step, values and jobs
pub record IsStepped {S T J : Type 0} (took : S → ℕ → MutBor (List T) → MutBor (List J) → Unit {0} → MutBor (List T) → MutBor (List J) → S → Type 0) (k : ℕ) (step : S) (values : List T) (jobs : List J) (next : S) (next_values : List T) (next_jobs : List J) : Type 0 where
  pub values_given : MutBor (List T)
  pub jobs_given : MutBor (List J)
  pub values_after : MutBor (List T)
  pub jobs_after : MutBor (List J)
  pub called : took step k values_given jobs_given tt values_after jobs_after next
  pub given : (values_given.now ≡ values) × (jobs_given.now ≡ jobs)
  pub changed : (values_after.now ≡ next_values) × (jobs_after.now ≡ next_jobs)

module _ {S T J F : Type 0} (took : S → ℕ → MutBor (List T) → MutBor (List J) → Unit {0} → MutBor (List T) → MutBor (List J) → S → Type 0) (after : J → ℕ → Bool → J → Type 0) (plan : SeenPlan) where
  -- n rounds, the first of them with number k, each of which went well and was followed by a call of the step with its
  -- number, the values and the jobs that it left; and then a last round, which left `done`
  abbrev pub HasRounds : ℕ → ℕ → S → Vec T → Vec J → JobsDone T J F → Type 0
  HasRounds zero k step values jobs done = IsDoneRun after (Patient 64) plan values jobs done
  HasRounds (suc n) k step values jobs done =
      (values_left : List T) × (jobs_left : List J) × IsRoundOf F after plan values jobs values_left jobs_left
      × (next : S) × (next_values : Vec T) × (next_jobs : Vec J)
      × IsStepped took k step values_left jobs_left next next_values.items next_jobs.items
      × HasRounds n (k + 1) next next_values next_jobs done
