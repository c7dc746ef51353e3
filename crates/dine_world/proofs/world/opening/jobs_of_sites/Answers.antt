use Rattle.std.proofs.Common.{arith}
use Rattle.dine_graph.specs.Plan.{job_count}
use Rattle.dine_world.proofs.all_sites.WorldOpened.{sum_more}
use Rattle.dine_world.proofs.world.opening.jobs_of_sites.Goals as goal

pub loop-site-preserved : goal.loop-site-preserved
loop-site-preserved c =
    let within = c.jobs.ensures.plan.few_jobs c.loop-site.site in
    record {
      so_far = omega (arith, sum_more (job_count c.args.plan.now) c.loop-site.site c.loop-site.total c.loop-site.invariant.so_far);
      few = omega (arith, within (omega arith));
    }
