use Rattle.std.proofs.Common.{◌≡◌, ℕ, ◌<◌, Bool, List, length, slice_index_or}
use Rattle.dine_graph.specs.Plan.{job_count}
use Rattle.dine_world.specs.Worlds.{lists_of}
use Rattle.dine_world_tests.proofs.worlds.outcomes.fits_the_jobs.Given as goal

-- the lists of the sites so far have a value for each job
abbrev pub invariant-loop-site : goal.invariant-loop-site
invariant-loop-site l = record {
  fits : (s : ℕ) (past : List Bool) → s < l.site → length (slice_index_or (lists_of l.fails) s past) ≡ job_count l.plan s;
}
