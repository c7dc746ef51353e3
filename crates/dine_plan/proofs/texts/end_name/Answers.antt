use Rattle.std.proofs.Common.{◌≡◌, List, [], ◌∷◌, map, string_bytes, refl, sym, ap, ◌∙◌}
use Rattle.dine_graph.specs.declared.plans.Site.{Site}
use Rattle.dine_graph.specs.Site.{seen_site}
use Rattle.dine_draft.specs.Draft.{names_of}
use Rattle.dine_draft.proofs.shared.NameLemmas.{names_seen-at}
use Rattle.dine_builder.specs.DraftPlan.{listed_site}
use Rattle.dine_plan.specs.DraftDocument.{end_name}
use Rattle.dine_plan.proofs.texts.end_name.Goals as goal

-- a site has its name, whichever of its jobs are seen
same_names : (sites : List Site) → names_of (map seen_site sites) ≡ names_of (map listed_site sites)
same_names [] = refl
same_names (site ∷ sites) = ap (λ names. string_bytes site.name ∷ names) (same_names sites)

pub returns : goal.returns
returns c =
    let here = c.index-sites-site.is in
    c.as_str.ensures.value ∙ ap (λ (site : Site). string_bytes site.name) (sym here) ∙ sym (names_seen-at c.args.sites.now c.args.site c.index-sites-site.result c.if-site-sites.false here)
    ∙ ap (λ names. end_name names c.args.site) (same_names c.args.sites.now)
