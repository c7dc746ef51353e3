-- What the command `run` writes.
use Rattle.std.specs.Prelude.{◌≡◌, ◌<◌, ℕ, ◌+◌, List, [], ◌∷◌, map, count_by, take, if◌then◌else◌}
use Rattle.std.specs.Global.{Vec}
use Rattle.std.specs.List.{range_with_len}
use Rattle.dine_graph.specs.Plan.{SeenPlan, SeenJob, IsPlan, site_count, job_count, jobs_of, resigns}
use Rattle.dine_token.specs.Fork.{SeenFork}
use Rattle.dine_threads.specs.declared.causes.RunCause.TheVariants as run_cause
use Rattle.dine_threads.specs.declared.gathered.RunFault.{RunFault}
use Rattle.dine_threads.specs.declared.gathered.SiteOut.{SiteOut}
use Rattle.dine_site_thread.specs.declared.manner.Manner.TheVariants.{Patient}
use Rattle.dine.specs.declared.run_text.TheConstants.{RUN_PATIENCE}
use Rattle.dine_threads.specs.Headline.{FaultIs}
use Rattle.dine_threads.specs.Tables.{AreDueValues, IsGatheredOf, edge_rows, site_rows, due_edge_rows, due_site_rows}
use Rattle.dine.specs.PlanDiners.{SeenPlanDiner, fails_of, first_word, plan_diner}
use Rattle.dine.specs.Tables.{edges_table, sites_table}
use Rattle.dine_words.specs.declared.words.Table.{Table}
use Rattle.dine_words.specs.declared.words.Table.TheVariants.{Edges, Sites}
use Rattle.dine.specs.declared.fault_lines.Fault.{Fault}
use Rattle.dine.specs.declared.fault_lines.Fault.TheVariants as fault
use Rattle.dine.specs.FaultLines.{fault_of_run}

-- the number of these jobs that a site does if it drops all jobs after one that failed
abbrev pub done_to_failed : List SeenJob → ℕ
done_to_failed [] = 0
done_to_failed (job ∷ jobs) = 1 + (if job.fails then 0 else done_to_failed jobs)

-- the number of meals that a site eats: one for each job, except that a site that resigns eats none after a job that
-- failed
abbrev pub meals_at : SeenPlan → ℕ → ℕ
meals_at plan s = if resigns plan s then done_to_failed (jobs_of plan s) else job_count plan s

-- the number of these meals in which the job fails
abbrev pub failing_jobs : SeenPlan → ℕ → ℕ
failing_jobs plan s = count_by (λ (job : SeenJob). job.fails) (take (meals_at plan s) (jobs_of plan s))

-- the number of failing jobs of each site, in order
abbrev pub failing_by_site : SeenPlan → List ℕ
failing_by_site plan = map (failing_jobs plan) (range_with_len 0 (site_count plan))

-- The text is a table of a run. The table of edges has for each edge the meals of its two ends, and a value that the
-- edge may have after them. The table of sites has for each site its meals and how many of them fail. If no job sets a
-- value, there is only one such text: the law `tables_without_set_are_of_the_plan`.
abbrev pub IsRunText : Table → SeenPlan → List ℕ → Type 0
IsRunText Edges plan text = (values : List ℕ) × AreDueValues plan (meals_at plan) values × (text ≡ edges_table plan (due_edge_rows plan (meals_at plan) values))
IsRunText Sites plan text = text ≡ sites_table plan (due_site_rows plan (meals_at plan) (failing_by_site plan))

-- the diner of a site before its first meal
abbrev pub diner_of : SeenPlan → ℕ → SeenPlanDiner
diner_of plan s = record { site = s; calls = []; marks = fails_of plan s; room = job_count plan s; word = first_word }

-- the diners of all sites before their first meals, in order
abbrev pub diners_of : SeenPlan → List SeenPlanDiner
diners_of plan = map (diner_of plan) (range_with_len 0 (site_count plan))

-- What was gathered belongs to the plan, and its rows are those that the plan gives, with values that the edges may
-- have after these meals.
pub record HasDueRows (plan : SeenPlan) (forks : List SeenFork) (outs : List (SiteOut SeenPlanDiner)) : Type 0 where
  pub is_plan : IsPlan plan
  pub gathered : IsGatheredOf plan forks outs
  pub values : List ℕ
  pub due : AreDueValues plan (meals_at plan) values
  pub edges : edge_rows plan forks ≡ due_edge_rows plan (meals_at plan) values
  pub sites : site_rows outs ≡ due_site_rows plan (meals_at plan) (failing_by_site plan)

-- the fault is that a run failed at a site of the plan
abbrev pub NamesSite : SeenPlan → Fault → Type 0
NamesSite plan (fault.RunFailed (run_cause.Thread site)) = site < site_count plan
NamesSite plan (fault.RunFailed (run_cause.Broken site cause)) = site < site_count plan
NamesSite plan _ = ⊥

-- The fault is one that `run` may return if it is given the diners of the plan.
pub record IsFaultOfRun (plan : SeenPlan) (reported : Fault) : Type 0 where
  pub diners : Vec SeenPlanDiner
  pub of_plan : diners.items ≡ diners_of plan
  pub returned : RunFault SeenPlanDiner
  pub may_return : FaultIs plan_diner (Patient RUN_PATIENCE) plan diners returned
  pub is_same : reported ≡ fault_of_run returned
