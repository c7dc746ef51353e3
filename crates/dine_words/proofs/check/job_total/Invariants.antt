use Rattle.std.proofs.Common.{◌≡◌, ◌≤◌, ◌*◌, length, map, sum, take}
use Rattle.dine_graph.specs.Plan.{SeenSite}
use Rattle.dine_words.proofs.check.job_total.Given as goal

-- the jobs of the sites so far, each number of which fits a u32
abbrev pub invariant-loop-site : goal.invariant-loop-site
invariant-loop-site l = record {
  jobs_so_far : l.total ≡ sum (map (λ (site : SeenSite). length site.jobs) (take l.site l.plan.sites));
  few : l.total ≤ 4294967296 * l.site;
}
