use Rattle.std.proofs.Common.{◌≤◌, subst, arith}
use Rattle.dine_token.specs.declared.limits.TheConstants.{MAX_JOBS}
use Rattle.dine_graph.specs.Plan.{IsPlan, job_count}
use Rattle.dine_graph.proofs.SiteLemmas.{site_read, count_read}
use Rattle.dine_graph.proofs.plans.Plan.jobs.Goals as goal

pub overflow_cast-result : goal.overflow_cast-result
overflow_cast-result c =
    let plan = c.args.self.now in
    let owner = c.index-owner.result.now in
    let count = count_read owner c.args.site plan (site_read c.self.inside c.args.site owner plan c.self.view_is c.requires c.index-owner.ensures) in
    let few : job_count plan c.args.site ≤ MAX_JOBS = (subst IsPlan c.self.view_is c.self.invariant.plan).few_jobs c.args.site c.requires in
    omega (arith, owner.jobs.ok.0)

pub overflow_add-result : goal.overflow_add-result
overflow_add-result c =
    let plan = c.args.self.now in
    let owner = c.index-owner.result.now in
    let count = count_read owner c.args.site plan (site_read c.self.inside c.args.site owner plan c.self.view_is c.requires c.index-owner.ensures) in
    let few : job_count plan c.args.site ≤ MAX_JOBS = (subst IsPlan c.self.view_is c.self.invariant.plan).few_jobs c.args.site c.requires in
    omega (arith, owner.jobs.ok.0)

pub returns-clause-count : goal.returns-clause-count
returns-clause-count c =
    let plan = c.args.self.now in
    let owner = c.index-owner.result.now in
    let count = count_read owner c.args.site plan (site_read c.self.inside c.args.site owner plan c.self.view_is c.requires c.index-owner.ensures) in
    omega (arith, owner.jobs.ok.0)
