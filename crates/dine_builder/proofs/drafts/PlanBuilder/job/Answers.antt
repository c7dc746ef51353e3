use Rattle.std.proofs.Common.{◌≡◌, ◌-◌, ◌<◌, ◌≤◌, length, refl, sym, ap, ◌∙◌, arith}
use Rattle.std.proofs.lemmas.Bool.{le-leb}
use Rattle.std.proofs.lemmas.List.{get_or_default}
use Rattle.dine_builder.specs.Draft.{SeenDraftSite, plain_job}
use Rattle.dine_builder.proofs.DraftLemmas.{site_seen}
use Rattle.dine_builder.proofs.drafts.PlanBuilder.job.Goals as goal

pub returns : goal.returns
returns c =
    let kept = c.self.inside in
    let within : c.args.site < length kept.sites.items = omega (arith, c.if-site-len.false, c.len.ensures, kept.sites.ok.0) in
    let first = site_seen kept.sites.items c.args.site c.index.result.now within c.index.ensures in
    let second = site_seen kept.sites.items c.args.site c.index-2.result.now within c.index-2.ensures in
    let jobs = c.index-2.result.now.jobs.items in
    let same : c.index.result.now.jobs.items ≡ jobs = ap (λ (site : SeenDraftSite). site.jobs) (sym first ∙ second) in
    let some : c.args.k ≤ length jobs = omega (arith, c.if-k-len.false, c.len-else-k-lt1.ensures, c.index.result.now.jobs.ok.0, ap length same) in
    record {
      found = rw (← c.self.view_is, second, le-leb 1 c.args.k c.if-k-lt1.false, le-leb c.args.k (length jobs) some) refl;
      job = c.index-3.ensures ∙ get_or_default jobs (c.args.k - 1) c.index-3.result.now (plain_job c.args.k) (omega (arith, some, c.if-k-lt1.false)) ∙ rw (← c.self.view_is, second) refl;
    }
