-- What a change of a stored site does to what is seen of the sites.
use Rattle.std.proofs.Common.{◌≡◌, ℕ, zero, suc, ◌<◌, ◌≤◌, List, [], ◌∷◌, map, length, get_or, set, nat_le, IsTrue, sym, ap, ◌∙◌, arith}
use Rattle.std.proofs.lemmas.Bool.{and_parts, leb-true}
use Rattle.std.proofs.lemmas.List.{get_or-map, map-set}
use Rattle.dine_builder.specs.Draft.{SeenDraftSite, Draft, no_draft_site, site_at, has_job}
use Rattle.dine_builder.specs.declared.drafts.DraftSite.{DraftSite}
use Rattle.dine_builder.specs.private.DraftFields.{seen_draft_site}

-- what is seen of one site
pub site_seen : (sites : List DraftSite) (s : ℕ) (site : DraftSite) → s < length sites → site ≡ get_or sites s site → get_or (map seen_draft_site sites) s no_draft_site ≡ seen_draft_site site
site_seen sites s site within is = get_or-map seen_draft_site sites s site no_draft_site within ∙ ap seen_draft_site (sym is)

pub site_changed : (f : SeenDraftSite → SeenDraftSite) (sites : List DraftSite) (s : ℕ) (old new : DraftSite) → s < length sites → old ≡ get_or sites s old → seen_draft_site new ≡ f (seen_draft_site old)
    → map seen_draft_site (set sites s new) ≡ set (map seen_draft_site sites) s (f (get_or (map seen_draft_site sites) s no_draft_site))
site_changed f sites s old new within is same = map-set seen_draft_site sites s new ∙ ap (set (map seen_draft_site sites) s) (same ∙ ap f (sym (site_seen sites s old within is)))

-- a site with a job is one of the sites
pub has_job_within : (sites : List SeenDraftSite) (s k : ℕ) → 1 ≤ k → k ≤ length (get_or sites s no_draft_site).jobs → s < length sites
has_job_within [] s k one some = absurd (omega arith)
has_job_within (x ∷ sites) zero k one some = omega arith
has_job_within (x ∷ sites) (suc s) k one some = omega (arith, has_job_within sites s k one some)

pub has_job_site : (s k : ℕ) (d : Draft) → IsTrue (has_job s k d) → s < length d.sites
has_job_site s k d has =
    let (one, some) = and_parts (nat_le 1 k) (nat_le k (length (site_at s d).jobs)) has in
    has_job_within d.sites s k (leb-true 1 k one) (leb-true k (length (site_at s d).jobs) some)
