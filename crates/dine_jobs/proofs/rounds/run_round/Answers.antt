-- The round is the one of these values and jobs.
use Rattle.std.proofs.Common.{◌∙◌, ap, vec_len}
use Rattle.dine_jobs.proofs.rounds.run_round.Goals as goal

pub returns-in-Ok-run_jobs-clause-ok : goal.returns-in-Ok-run_jobs-clause-ok
returns-in-Ok-run_jobs-clause-ok g c =
    let same = c.in-Ok.ensures.same in
    record {
      left = c.in-Ok-run_jobs.done;
      ran = rw (← same.0, ← same.1) c.in-Ok-run_jobs.ensures.ok;
      values_back = c.into_lists.ensures.values;
      jobs_back = c.into_lists.ensures.jobs;
    }

pub returns-in-Err-clause-fault : goal.returns-in-Err-clause-fault
returns-in-Err-clause-fault g c = (c.args.values, c.args.jobs, c.in-Err.ensures.fault)

pub returns-in_default-clause-fault : goal.returns-in_default-clause-fault
returns-in_default-clause-fault g c =
    let same = c.in-Ok.ensures.same in
    let many = c.in-Ok.ensures.many in
    (c.args.values, c.args.jobs, (many, ap vec_len same.0 ∙ many.0))

pub returns-in-Err-run_jobs-clause-fault : goal.returns-in-Err-run_jobs-clause-fault
returns-in-Err-run_jobs-clause-fault g c = (c.in-Ok.both.0, c.in-Ok.both.1, c.in-Err-run_jobs.ensures.fault)
