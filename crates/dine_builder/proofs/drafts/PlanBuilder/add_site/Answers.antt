use Rattle.std.proofs.Common.{◌≡◌, false, [], ◌∷◌, ◌++◌, ◌-◌, map, length, refl, ap, ◌∙◌, arith}
use Rattle.std.proofs.lemmas.List.{length-map, map_push}
use Rattle.dine_builder.specs.Draft.{SeenDraftSite, Draft, kept_count, plain_jobs, with_site}
use Rattle.dine_builder.specs.declared.drafts.DraftSite.{DraftSite}
use Rattle.dine_builder.specs.private.DraftFields.{seen_draft_site}
use Rattle.dine_builder.proofs.drafts.PlanBuilder.add_site.Goals as goal

pub returns : goal.returns
returns c =
    let kept = c.self.inside in
    let count : length (map seen_draft_site kept.sites.items) ≡ length kept.sites.items = length-map kept.sites.items seen_draft_site in
    let counted : length (map seen_draft_site kept.sites.items) ≡ length c.args.self.now.sites = ap (λ (d : Draft). length d.sites) c.self.view_is in
    let site : DraftSite = record { name = c.in_ok-name.name; jobs = c.in_ok-jobs.jobs; plain = c.args.jobs - c.min-kept.result; resigns = false } in
    let draft : SeenDraftSite = record { name = c.args.name.now; jobs = plain_jobs c.args.jobs; plain = c.args.jobs - kept_count c.args.jobs; resigns = false } in
    let seen : seen_draft_site site ≡ draft = rw (c.in_ok-name.ensures.ok, c.in_ok-jobs.ensures, c.min-kept.ensures) refl in
    record {
      number = omega (arith, c.len-number.ensures, kept.sites.ok.0, count, counted);
      changed =
          ap (λ sites. record { sites = sites; edges = kept.edges.items }) (ap (map seen_draft_site) c.in_ok-push.ensures.items ∙ map_push seen_draft_site kept.sites.items site ∙ ap (λ s. map seen_draft_site kept.sites.items ++ s ∷ []) seen)
          ∙ ap (with_site c.args.name.now c.args.jobs) c.self.view_is;
      refused = tt;
    }
