-- The site that a plan has at a number, as its fields read it.
use Rattle.std.proofs.Common.{◌≡◌, ℕ, ◌+◌, ◌<◌, length, map, get_or, sym, ap, subst, ◌∙◌, arith}
use Rattle.std.proofs.lemmas.List.{get_or-map, length-map}
use Rattle.dine_graph.specs.Plan.{SeenSite, SeenPlan, job_count, no_site}
use Rattle.dine_graph.specs.Site.{seen_site}
use Rattle.dine_graph.specs.declared.plans.Site.{Site}
use Rattle.dine_graph.specs.declared.plans.Plan.TheInside.{Inside}
use Rattle.dine_graph.specs.private.Fields.{seen_plan}
use Rattle.dine_graph.proofs.shared.JobLemmas.{length-seen_jobs}

-- it is the site that was read at this place
pub site_read : (inside : Inside) (s : ℕ) (owner : Site) (plan : SeenPlan) → seen_plan inside ≡ plan → s < length plan.sites → owner ≡ get_or inside.sites.items s owner
    → get_or plan.sites s no_site ≡ seen_site owner
site_read inside s owner plan view within read =
    let sites = inside.sites.items in
    let count : length (map seen_site sites) ≡ length sites = length-map sites seen_site in
    let here : s < length (map seen_site sites) = subst (λ (p : SeenPlan). s < length p.sites) (sym view) within in
    ap (λ (p : SeenPlan). get_or p.sites s no_site) (sym view) ∙ get_or-map seen_site sites s owner no_site (omega arith) ∙ ap seen_site (sym read)

-- its jobs are those of the list and the plain ones
pub count_read : (owner : Site) (s : ℕ) (plan : SeenPlan) → get_or plan.sites s no_site ≡ seen_site owner → job_count plan s ≡ length owner.jobs.items + owner.plain
count_read owner s plan at = ap (λ (site : SeenSite). length site.jobs) at ∙ length-seen_jobs owner.jobs.items owner.plain
