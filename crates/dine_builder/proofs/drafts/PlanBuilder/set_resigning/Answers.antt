use Rattle.std.proofs.Common.{◌<◌, length, true, ap, refl, ◌∙◌, arith}
use Rattle.dine_builder.specs.Draft.{SeenDraftSite, with_resigning}
use Rattle.dine_builder.proofs.DraftLemmas.{site_changed}
use Rattle.dine_builder.proofs.drafts.PlanBuilder.set_resigning.Goals as goal

pub returns-clause-changed : goal.returns-clause-changed
returns-clause-changed c =
    let kept = c.self.inside in
    let within : c.args.site < length kept.sites.items = omega (arith, c.if-site-len.false, c.len.ensures, kept.sites.ok.0) in
    let resigning : SeenDraftSite → SeenDraftSite = λ site. record site { resigns = true } in
    ap (λ sites. record { sites = sites; edges = kept.edges.items }) (site_changed resigning kept.sites.items c.args.site c.index_mut.result.now _ within c.index_mut.ensures.value refl)
    ∙ ap (with_resigning c.args.site) c.self.view_is
