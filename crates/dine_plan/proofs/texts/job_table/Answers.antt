use Rattle.std.proofs.Common.{ap, ◌∙◌}
use Rattle.toml.specs.Data.{table, string}
use Rattle.toml.proofs.Views.{view-Table, view-String, view-Boolean}
use Rattle.dine_graph.specs.Job.{seen_job}
use Rattle.dine_plan.specs.DraftDocument.{job_table}
use Rattle.dine_plan.proofs.TableLemmas.{members_of_job}
use Rattle.dine_plan.proofs.texts.job_table.Goals as goal

pub returns : goal.returns
unfolding job_table
returns c =
    let name = view-String c.in_ok-name.name ∙ ap string c.in_ok-name.ensures.ok in
    view-Table _ ∙ ap table (c.in_ok-put_act.ensures ∙ rw (c.in_ok-put-3.ensures, c.in_ok-put-2.ensures, c.in_ok-put.ensures, c.new-table.ensures.empty, c.whole.ensures, name, view-Boolean c.args.job.now.fails) (members_of_job (seen_job c.args.job.now) c.args.job.now.act))
