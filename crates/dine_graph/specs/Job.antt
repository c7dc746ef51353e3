-- What clauses see of a job.
use Rattle.std.specs.Prelude.{ℕ, List, false, string_bytes}
use Rattle.std.specs.Fmt.{decimal}
use Rattle.dine_token.specs.declared.act.Act.TheVariants.{Add}
use Rattle.dine_graph.specs.Plan.{SeenJob}
use Rattle.dine_graph.specs.declared.plans.Job.{Job}
use Rattle.dine_graph.specs.declared.plans.PlanJob.{PlanJob}
use Rattle.dine_graph.specs.declared.job_name.JobName.{JobName}
use Rattle.dine_graph.specs.declared.job_name.JobName.TheVariants.{Own, Number}
use Rattle.dine_graph.specs.declared.job_name.PlanJobName.{PlanJobName}
use Rattle.dine_graph.specs.declared.job_name.PlanJobName.TheVariants as plan_name

-- the bytes of a name
abbrev pub name_bytes : JobName → List ℕ
name_bytes (Own text) = string_bytes text
name_bytes (Number number) = decimal number

-- the job that the fields of a `Job` describe
abbrev pub seen_job : Job → SeenJob
seen_job job = record { name = name_bytes job.name; turns = job.turns; fails = job.fails; act = job.act }

-- the bytes of the name of a job of a plan
abbrev pub plan_name_bytes : PlanJobName → List ℕ
plan_name_bytes (plan_name.Own text) = text.now
plan_name_bytes (plan_name.Number number) = decimal number

-- the job that the fields of a `PlanJob` describe
abbrev pub seen_plan_job : PlanJob → SeenJob
seen_plan_job job = record { name = plan_name_bytes job.name; turns = job.turns; fails = job.fails; act = job.act }

-- plain job k: its number as its name, no turns, no failure, and an act that adds 0
abbrev pub plain_job : ℕ → SeenJob
plain_job k = record { name = decimal k; turns = 0; fails = false; act = Add 0 }
