-- The workers that were made are those that the run says it of.
use Rattle.std.proofs.Common.{ap, map, ◌∙◌, of_calls, subst}
use Rattle.dine_site_thread.specs.declared.manner.Manner.{Manner}
use Rattle.dine_threads.specs.declared.options.RunOptions.{RunOptions}
use Rattle.dine_jobs.specs.JobRuns.{IsDoneRun}
use Rattle.dine_jobs.specs.Workers.{DoesTasks}
use Rattle.dine_jobs.proofs.open_runs.run_epoch.Goals as goal

pub returns-in-Ok-clause-ran : goal.returns-in-Ok-clause-ran
returns-in-Ok-clause-ran g c =
    let manner = ap (λ (options : RunOptions). options.manner) c.on_call-options.ensures in (
      c.in-Ok-Ok-Ok.workers,
      search of_calls,
      search of_calls,
      subst (λ (m : Manner). IsDoneRun (DoesTasks (g.K.Task.gives)) m c.args.plan.now c.args.values c.in-Ok-Ok-Ok.workers c.in-Ok.done) manner c.in-Ok.ensures.ok,
    )

pub returns-in-Ok-clause-ended : goal.returns-in-Ok-clause-ended
returns-in-Ok-clause-ended g c = c.turns_left-ended.ensures ∙ ap (map _) c.as_slice.ensures.value
