use Rattle.std.proofs.Common.{◌≡◌, map, take}
use Rattle.toml.specs.View.{view}
use Rattle.dine_graph.specs.Job.{seen_job}
use Rattle.dine_plan.specs.DraftDocument.{job_table}
use Rattle.dine_plan.proofs.texts.job_tables.Given as goal

abbrev pub invariant-loop-job : goal.invariant-loop-job
invariant-loop-job l = map view l.tables.items ≡ map job_table (map seen_job (take l.job-index l.jobs))
