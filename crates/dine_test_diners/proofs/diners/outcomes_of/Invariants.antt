use Rattle.std.proofs.Common.{◌≡◌, Bool, Vec, Global, length, map, vec_items}
use Rattle.std.specs.List.{range_with_len}
use Rattle.dine_graph.specs.Plan.{job_count}
use Rattle.dine_test_diners.proofs.diners.outcomes_of.Given as goal

-- the lists of the sites so far have a value for each job
abbrev pub invariant-loop-site : goal.invariant-loop-site
invariant-loop-site l = map (λ (own : Vec Bool Global). length own.items) (vec_items l.fails) ≡ map (job_count l.plan) (range_with_len 0 l.site)
