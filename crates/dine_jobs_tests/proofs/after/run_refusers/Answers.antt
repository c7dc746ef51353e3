use Rattle.std.proofs.lemmas.Result.{IfOk-weaker}
use Rattle.dine_jobs_tests.specs.declared.after.Refuser.{Refuser}
use Rattle.dine_jobs_tests.proofs.Chains.{all_noted}
use Rattle.dine_jobs_tests.proofs.after.run_refusers.Goals as goal

pub returns-in-Channels : goal.returns-in-Channels
returns-in-Channels g c = IfOk-weaker c.on_channels.result _ _ (λ done is. all_noted (λ (job : Refuser). job.refused) _ _ _ _ is.sites) c.on_channels.ensures.ok

pub returns-in-Rings : goal.returns-in-Rings
returns-in-Rings g c = IfOk-weaker c.on_rings.result _ _ (λ done is. all_noted (λ (job : Refuser). job.refused) _ _ _ _ is.sites) c.on_rings.ensures.ok
