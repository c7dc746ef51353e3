use Rattle.std.proofs.Common.{◌≡◌, ◌+◌, length, refl, arith}
use Rattle.dine_graph.specs.Site.{seen_jobs}
use Rattle.dine_graph.proofs.shared.JobLemmas.{length-seen_jobs}
use Rattle.dine_draft.specs.Refusals.{has_many_jobs}
use Rattle.dine_draft.proofs.sites.has_many_jobs.Goals as goal

pub returns : goal.returns
unfolding has_many_jobs
returns c =
    let site = c.args.site.now in
    let count : length (seen_jobs site.jobs.items site.plain) ≡ length site.jobs.items + site.plain = length-seen_jobs site.jobs.items site.plain in
    let all : c.len.result + c.from.result ≡ length (seen_jobs site.jobs.items site.plain) = omega (arith, count, c.len.ensures, c.from.ensures, site.jobs.ok.0) in
    rw (all, c.from-2.ensures) refl
