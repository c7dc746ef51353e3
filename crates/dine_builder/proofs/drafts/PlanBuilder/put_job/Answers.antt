use Rattle.std.proofs.Common.{◌<◌, ◌-◌, length, set, ap, refl, ◌∙◌, arith}
use Rattle.std.proofs.lemmas.List.{length-map}
use Rattle.dine_builder.specs.Draft.{SeenDraftSite, has_job, with_job}
use Rattle.dine_builder.specs.private.DraftFields.{seen_draft, seen_draft_site}
use Rattle.dine_builder.proofs.DraftLemmas.{site_changed, has_job_site}
use Rattle.dine_builder.proofs.drafts.PlanBuilder.put_job.Goals as goal

pub returns : goal.returns
returns c =
    let kept = c.self.inside in
    let within : c.args.site < length kept.sites.items = omega (arith, has_job_site c.args.site c.args.k (seen_draft kept) (ap (has_job c.args.site c.args.k) c.self.view_is ∙ c.requires), length-map kept.sites.items seen_draft_site) in
    let putting : SeenDraftSite → SeenDraftSite = λ site. record site { jobs = set site.jobs (c.args.k - 1) c.args.job } in
    ap (λ sites. record { sites = sites; edges = kept.edges.items }) (site_changed putting kept.sites.items c.args.site c.index_mut.result.now _ within c.index_mut.ensures.value refl)
    ∙ ap (with_job c.args.site c.args.k c.args.job) c.self.view_is
