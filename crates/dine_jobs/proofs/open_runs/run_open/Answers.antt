-- The function that is called after each epoch does nothing.
use Rattle.std.proofs.lemmas.Result.{IfOk-weaker}
use Rattle.dine_jobs.proofs.Forgotten.{forgotten}
use Rattle.dine_jobs.proofs.open_runs.run_open.Goals as goal

pub returns : goal.returns
returns g c = record {
  ok = IfOk-weaker c.run_open_with.result _ _ (λ done has. (has.0, has.1, has.2, forgotten _ _ _ _ _ _ has.0 _ _ _ _ _ has.3, has.4)) c.run_open_with.ensures.ok;
}
