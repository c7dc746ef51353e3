-- The last round is the one of the values and jobs as they are then.
use Rattle.std.proofs.Common.{◌≡◌, ◌-◌, ◌+◌, suc, ◌∙◌, sym, arith, of_calls}
use Rattle.std.proofs.lemmas.List.{with_items_is}
use Rattle.std.proofs.lemmas.Result.{IfErr-weaker, IfOk-weaker}
use Rattle.std.specs.Vec.{with_items}
use Rattle.dine_jobs.proofs.rounds.run_rounds.Goals as goal

pub loop-round-preserved : goal.loop-round-preserved
loop-round-preserved g c =
    let left : c.args.rounds - c.loop-round.round ≡ suc (c.args.rounds - (c.loop-round.round + 1)) = omega (arith, c.loop-round-test.true) in (
      search of_calls,
      λ done rest. c.loop-round.invariant.1 done (rw left (
        _,
        _,
        c.in_ok-values.ensures.ok,
        c.step.new.self,
        with_items c.in_ok-values.field-0-0 c.step.new.arg3,
        with_items c.in_ok-values.field-0-1 c.step.new.arg4,
        record {
          values_given = c.as_mut_slice.result;
          jobs_given = c.as_mut_slice-in-loop-round.result;
          values_after = record c.as_mut_slice.result { now = c.step.new.arg3 };
          jobs_after = record c.as_mut_slice-in-loop-round.result { now = c.step.new.arg4 };
          called = c.step.ensures;
          given = (c.as_mut_slice.ensures.value, c.as_mut_slice-in-loop-round.ensures.value);
          changed = (
            sym (with_items_is c.in_ok-values.field-0-0 c.step.new.arg3 (c.step.auto.arg3 ∙ c.as_mut_slice.ensures.len)),
            sym (with_items_is c.in_ok-values.field-0-1 c.step.new.arg4 (c.step.auto.arg4 ∙ c.as_mut_slice-in-loop-round.ensures.len)),
          );
        },
        rest,
      )),
    )

pub returns-clause-ok : goal.returns-clause-ok
returns-clause-ok g c =
    let none : c.args.rounds - c.loop-round.round ≡ 0 = omega (arith, c.loop-round-test.false) in
    IfOk-weaker c.run_jobs.result _ _ (λ done is. c.loop-round.invariant.1 done (rw none is)) c.run_jobs.ensures.ok

pub returns-clause-fault : goal.returns-clause-fault
returns-clause-fault g c = IfErr-weaker c.run_jobs.result _ _ (λ fault is. (c.loop-round.values, c.loop-round.jobs, is)) c.run_jobs.ensures.fault
