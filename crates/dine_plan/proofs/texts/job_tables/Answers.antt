use Rattle.std.proofs.Common.{map, ap, ◌∙◌}
use Rattle.toml.specs.View.{view}
use Rattle.dine_graph.specs.Job.{seen_job}
use Rattle.dine_draft.proofs.shared.ListLemmas.{each_seen_more}
use Rattle.dine_plan.specs.DraftDocument.{job_table}
use Rattle.dine_plan.proofs.texts.job_tables.Goals as goal

pub loop-job-preserved : goal.loop-job-preserved
loop-job-preserved c =
    ap (map view) c.in_ok-push.ensures.items
    ∙ each_seen_more view job_table seen_job c.loop-job.tables.items c.in_ok-job_table.field-0 c.args.jobs.now c.loop-job.job-index c.job-item.result c.loop-job-test.true c.job-item.is c.loop-job.invariant c.in_ok-job_table.ensures
