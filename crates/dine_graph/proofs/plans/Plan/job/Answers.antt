use Rattle.std.proofs.Common.{◌≡◌, ◌-◌, ◌<◌, ◌≤◌, length, get_or, ap, sym, ◌∙◌, arith}
use Rattle.std.proofs.lemmas.Bool.{ltb-false}
use Rattle.dine_graph.specs.Plan.{SeenSite, job_count, job_of, no_job}
use Rattle.dine_graph.specs.Job.{plain_job}
use Rattle.dine_graph.proofs.SiteLemmas.{site_read, count_read}
use Rattle.dine_graph.proofs.shared.JobLemmas.{plain_at}
use Rattle.dine_graph.proofs.plans.Plan.job.Goals as goal

pub returns-in-None-clause-job : goal.returns-in-None-clause-job
returns-in-None-clause-job c =
    let plan = c.args.self.now in
    let owner = c.index-owner.result.now in
    let at = site_read c.self.inside c.args.site owner plan c.self.view_is c.requires.site_in c.index-owner.ensures in
    let count = count_read owner c.args.site plan at in
    let past : length owner.jobs.items ≤ c.args.k - 1 = rw c.deref.ensures.value at (ltb-false (c.args.k - 1) (length c.deref.result.now) (sym c.in-None.ensures.lookup.0)) in
    let is : job_of plan c.args.site c.args.k ≡ plain_job c.args.k = ap (λ (site : SeenSite). get_or site.jobs (c.args.k - 1) no_job) at ∙ plain_at owner.jobs.items owner.plain c.args.k no_job (omega (arith, c.requires.from_one)) (omega (arith, c.requires.job_in)) in
    c.plain_job.ensures ∙ sym is
