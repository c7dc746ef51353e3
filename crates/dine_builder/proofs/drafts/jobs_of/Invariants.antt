use Rattle.std.proofs.Common.{◌≡◌, map, take}
use Rattle.dine_graph.specs.Job.{seen_job}
use Rattle.dine_builder.specs.DraftPlan.{job_of_draft}
use Rattle.dine_builder.proofs.drafts.jobs_of.Given as goal

abbrev pub invariant-loop-draft : goal.invariant-loop-draft
invariant-loop-draft l = map seen_job l.jobs.items ≡ map job_of_draft (take l.draft-index l.drafts)
