use Rattle.std.proofs.Common.{◌≡◌, ℕ, Some, slice_get, vec_len, vec_items}
use Rattle.dine_graph.specs.Plan.{job_count}
use Rattle.dine_run.specs.CallLogs.{no_calls}
use Rattle.dine_tellers.specs.declared.teller.Teller.{Teller}
use Rattle.dine_tellers.proofs.open_tellers.Given as goal

abbrev pub invariant-loop-site : goal.invariant-loop-site
invariant-loop-site l = record {
  len : vec_len l.tellers ≡ l.site;
  each : (s : ℕ) (teller : Teller) → slice_get (vec_items l.tellers) s ≡ Some teller → teller.log ≡ no_calls (job_count l.plan s);
}
