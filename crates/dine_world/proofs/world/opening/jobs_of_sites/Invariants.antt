use Rattle.std.proofs.Common.{◌≡◌, ◌≤◌, ◌*◌, map, sum}
use Rattle.std.specs.List.{range_with_len}
use Rattle.dine_token.specs.declared.limits.TheConstants.{MAX_JOBS}
use Rattle.dine_graph.specs.Plan.{job_count}
use Rattle.dine_world.proofs.world.opening.jobs_of_sites.Given as goal

-- the jobs of the sites so far, at most MAX_JOBS a site
abbrev pub invariant-loop-site : goal.invariant-loop-site
invariant-loop-site l = record {
  so_far : l.total ≡ sum (map (job_count l.plan) (range_with_len 0 l.site));
  few : l.total ≤ MAX_JOBS * l.site;
}
