use Rattle.std.proofs.Common.{map, ap, ◌∙◌}
use Rattle.dine_graph.specs.Job.{seen_job}
use Rattle.dine_draft.proofs.shared.ListLemmas.{each_more}
use Rattle.dine_builder.specs.DraftPlan.{job_of_draft}
use Rattle.dine_builder.proofs.drafts.jobs_of.Goals as goal

pub loop-draft-preserved : goal.loop-draft-preserved
loop-draft-preserved c =
    ap (map seen_job) c.in_ok-push.ensures.items
    ∙ each_more seen_job job_of_draft c.loop-draft.jobs.items c.job_of.result c.args.drafts.now c.loop-draft.draft-index _ c.loop-draft-test.true c.loop-draft.invariant c.job_of.ensures
