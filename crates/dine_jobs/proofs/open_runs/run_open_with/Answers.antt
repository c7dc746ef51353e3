-- The last epoch is the one of the turns and values as they are then.
use Rattle.std.proofs.Common.{suc, zero, refl, ◌∙◌, of_calls}
use Rattle.std.proofs.lemmas.Result.{IfOk-weaker}
use Rattle.dine_jobs.proofs.open_runs.run_open_with.Goals as goal

pub loop-init : goal.loop-init
loop-init g c = (c.requires.callable, search of_calls, λ n ended back has. (n, _, has))

pub each-requires : goal.each-requires
each-requires g c = search of_calls

pub returns-then-not-begin_epoch : goal.returns-then-not-begin_epoch
returns-then-not-begin_epoch g c = record {
  ok = IfOk-weaker c.with_served.result _ _ (λ done has.
      let epochs = c.loop.invariant.2 zero _ _ (
        c.each.new.self,
        record {
          jobs = c.in_ok-done.ensures.ran.0;
          are_fresh = c.in_ok-done.ensures.ran.1;
          in_turn = c.in_ok-done.ensures.ran.2 ∙ c.as_slice-first.ensures.value;
          done = c.in_ok-done.done;
          ran = c.in_ok-done.ensures.ran.3;
          turns_left = c.in_ok-done.ensures.ended;
          left = record { sites = c.in_ok-done.done.sites; forks = c.in_ok-done.done.forks };
          same = (has.0, refl, refl);
          called = c.each.ensures;
        },
      ) in
      (epochs.0, epochs.1, _, epochs.2, has.1 ∙ c.as_slice-last.ensures.value))
      c.with_served.ensures.ok;
}

pub loop-preserved : goal.loop-preserved
loop-preserved g c = (
  search of_calls,
  c.in_ok-done.ensures.ended_many,
  λ n ended back rest. c.loop.invariant.2 (suc n) ended back (
    c.in_ok-done.done.values,
    _,
    c.each.new.self,
    record {
      jobs = c.in_ok-done.ensures.ran.0;
      are_fresh = c.in_ok-done.ensures.ran.1;
      in_turn = c.in_ok-done.ensures.ran.2 ∙ c.as_slice-first.ensures.value;
      done = c.in_ok-done.done;
      ran = c.in_ok-done.ensures.ran.3;
      turns_left = c.in_ok-done.ensures.ended;
      left = record { sites = c.in_ok-done.done.sites; forks = c.in_ok-done.done.forks };
      same = (refl, refl, refl);
      called = c.each.ensures;
    },
    c.bare-values.result,
    c.bare-values.ensures,
    rest,
  ),
)
