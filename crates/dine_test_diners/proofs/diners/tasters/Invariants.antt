use Rattle.std.proofs.Common.{◌≡◌, ◌≤◌, ℕ, Some, slice_get, vec_len, vec_items}
use Rattle.dine_graph.specs.Plan.{job_count}
use Rattle.dine_test_diners.specs.declared.diners.Taster.{Taster}
use Rattle.dine_test_diners.proofs.diners.tasters.Given as goal

abbrev pub invariant-loop-site : goal.invariant-loop-site
invariant-loop-site l = record {
  len : vec_len l.diners ≡ l.site;
  rooms : (s : ℕ) (diner : Taster) → slice_get (vec_items l.diners) s ≡ Some diner → job_count l.plan s ≤ diner.log.room;
}
