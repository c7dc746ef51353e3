use Rattle.std.proofs.Common.{map, refl, ap, ◌∙◌}
use Rattle.toml.specs.Data.{table, string, array}
use Rattle.toml.specs.View.{items_of}
use Rattle.toml.proofs.Views.{view-Table, view-Array}
use Rattle.dine_graph.specs.Job.{seen_job}
use Rattle.dine_plan.specs.DraftDocument.{job_table, site_table}
use Rattle.dine_plan.proofs.texts.site_table.Goals as goal

pub returns : goal.returns
unfolding site_table
returns c =
    let jobs = view-Array c.in_ok-jobs.jobs ∙ ap (λ ds. array (items_of ds)) (c.in_ok-jobs.ensures ∙ ap (λ jobs. map job_table (map seen_job jobs)) c.as_slice.ensures.value) in
    let name = c.in_ok-string.ensures ∙ ap string c.as_str.ensures.value in
    let policy = c.in_ok-string-2.ensures ∙ ap string c.policy_word.ensures in
    view-Table _ ∙ ap table (c.in_ok-put-3.ensures ∙ rw (c.in_ok-put-2.ensures, c.in_ok-put.ensures, c.new-table.ensures.empty, jobs, name, policy) refl)
