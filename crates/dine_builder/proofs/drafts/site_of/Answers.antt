use Rattle.std.proofs.Common.{◌≡◌, map, length, refl, sym, ap, ◌∙◌}
use Rattle.std.proofs.lemmas.List.{length-map}
use Rattle.dine_graph.specs.Job.{seen_job}
use Rattle.dine_builder.specs.DraftPlan.{job_of_draft}
use Rattle.dine_builder.proofs.drafts.site_of.Goals as goal

pub returns-clause-site : goal.returns-clause-site
returns-clause-site c =
    let jobs = c.in_ok-jobs.jobs.items in
    let drafts = c.args.draft.now.jobs.items in
    let same : map seen_job jobs ≡ map job_of_draft drafts = c.in_ok-jobs.ensures ∙ ap (map job_of_draft) c.as_slice.ensures.value in
    let long : length jobs ≡ length drafts = sym (length-map jobs seen_job) ∙ ap length same ∙ length-map drafts job_of_draft in
    rw (c.in_ok-name.ensures.ok ∙ c.as_str.ensures.value, same, long) refl

pub returns-clause-listed : goal.returns-clause-listed
returns-clause-listed c =
    rw (c.in_ok-name.ensures.ok ∙ c.as_str.ensures.value, c.in_ok-jobs.ensures ∙ ap (map job_of_draft) c.as_slice.ensures.value) refl
