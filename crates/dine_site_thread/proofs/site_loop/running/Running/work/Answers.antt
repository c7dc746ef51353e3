use Rattle.std.proofs.Common.{◌≡◌, Result, Ok, Err, sym, ◌∙◌, subst, rules}
use Rattle.std.specs.Prelude.{OnOk}
use Rattle.dine_site_thread.specs.declared.site_loop.running.Stop.{Stop}
use Rattle.dine_site_thread.specs.private.Running.{GoesToEnd, IsRunning, IsTimedRun, Proceeds, IsWorking, WorksOn}
use Rattle.dine_site_thread.proofs.one_site.Proceeding.{may_then, proceeds_not, proceeds_same, proceeds_then, proceeds_to}
use Rattle.dine_site_thread.proofs.site_loop.running.Running.work.Goals as goal

pub loop-init : goal.loop-init
loop-init g c = record { proceeds = proceeds_not g.L.Lane g.D.Diner c.args.self.now c.requires.ready.ready; timed = λ timed. timed; checks = λ first are. are; works = λ plan given was. was }

pub do_events-requires-clause-ready : goal.do_events-requires-clause-ready
do_events-requires-clause-ready g c κs ls = may_then g.L.Lane g.D.Diner c.requires.ready c.loop.invariant.proceeds

pub returns-in_err-do_events : goal.returns-in_err-do_events
returns-in_err-do_events g c =
    let stop = c.in_err-do_events.field-0.0 in
    let is : c.from_residual.result ≡ Err stop = search rules in
    record {
      proceeds = subst (λ (result : Result _ _). Proceeds g.L.Lane g.D.Diner (GoesToEnd result) c.args.self.now c.do_events.new.self) (sym is)
          (proceeds_then g.L.Lane g.D.Diner (GoesToEnd (Err stop)) c.loop.invariant.proceeds c.in_err-do_events.ensures.proceeds);
      timed = subst (λ (result : Result (Unit {0}) Stop). OnOk result (IsTimedRun g.L.Lane c.args.self.now → IsTimedRun g.L.Lane c.do_events.new.self)) (sym is) tt;
      checks = λ first are. c.do_events.ensures.checks first (c.loop.invariant.checks first are);
      works = subst (λ (result : Result (Unit {0}) Stop). WorksOn g.L.Lane IsWorking result c.args.self.now c.do_events.new.self) (sym is) (λ plan given was. tt);
    }

pub returns-then-is_finished : goal.returns-then-is_finished
returns-then-is_finished g c = record {
  proceeds = proceeds_to g.L.Lane g.D.Diner (GoesToEnd (Ok tt)) (λ plan given running. (running, λ plan state keeps stands. sym (c.is_finished.ensures.by_lists plan state keeps stands) ∙ c.if-is_finished.true))
      (proceeds_then g.L.Lane g.D.Diner IsRunning c.loop.invariant.proceeds c.in_ok-do_events.ensures.proceeds);
  timed = λ timed. c.in_ok-do_events.ensures.timed (c.loop.invariant.timed timed);
  checks = λ first are. c.do_events.ensures.checks first (c.loop.invariant.checks first are);
  works = λ plan given was. c.in_ok-do_events.ensures.works plan given (c.loop.invariant.works plan given was);
}

pub wait_and_take-requires-clause-running : goal.wait_and_take-requires-clause-running
wait_and_take-requires-clause-running g c κs ls =
    let p = c.requires.ready.running in
    (p.0, p.1, c.in_ok-do_events.ensures.proceeds.way p.0 p.1 (c.loop.invariant.proceeds.way p.0 p.1 p.2))

pub wait_and_take-requires-clause-idle : goal.wait_and_take-requires-clause-idle
wait_and_take-requires-clause-idle g c κs ls = c.in_ok-do_events.ensures.idle

pub returns-in_err-wait_and_take : goal.returns-in_err-wait_and_take
returns-in_err-wait_and_take g c =
    let did = c.in_ok-do_events.ensures.proceeds in
    let stop = c.in_err-wait_and_take.field-0.0 in
    let is : c.from_residual-in_err-wait_and_take.result ≡ Err stop = search rules in
    record {
      proceeds = subst (λ (result : Result _ _). Proceeds g.L.Lane g.D.Diner (GoesToEnd result) c.args.self.now c.wait_and_take.new.self) (sym is)
          (proceeds_then g.L.Lane g.D.Diner (GoesToEnd (Err stop)) (proceeds_then g.L.Lane g.D.Diner IsRunning c.loop.invariant.proceeds did)
          (proceeds_same g.L.Lane g.D.Diner (GoesToEnd (Err stop)) c.do_events.new.self c.wait_and_take.new.self c.wait_and_take.ensures.same did.ready c.in_err-wait_and_take.ensures.way));
      timed = subst (λ (result : Result (Unit {0}) Stop). OnOk result (IsTimedRun g.L.Lane c.args.self.now → IsTimedRun g.L.Lane c.wait_and_take.new.self)) (sym is) tt;
      checks = λ first are. c.wait_and_take.ensures.checks first (c.do_events.ensures.checks first (c.loop.invariant.checks first are));
      works = subst (λ (result : Result (Unit {0}) Stop). WorksOn g.L.Lane IsWorking result c.args.self.now c.wait_and_take.new.self) (sym is) (λ plan given was. tt);
    }

pub loop-preserved : goal.loop-preserved
loop-preserved g c =
    let did = c.in_ok-do_events.ensures.proceeds in
    record {
      proceeds = proceeds_then g.L.Lane g.D.Diner IsRunning (proceeds_then g.L.Lane g.D.Diner IsRunning c.loop.invariant.proceeds did)
          (proceeds_same g.L.Lane g.D.Diner IsRunning c.do_events.new.self c.wait_and_take.new.self c.wait_and_take.ensures.same did.ready c.in_ok-wait_and_take.ensures.way);
      timed = λ timed. c.in_ok-wait_and_take.ensures.timed (c.in_ok-do_events.ensures.timed (c.loop.invariant.timed timed));
      checks = λ first are. c.wait_and_take.ensures.checks first (c.do_events.ensures.checks first (c.loop.invariant.checks first are));
      works = λ plan given was. c.in_ok-wait_and_take.ensures.works plan given (c.in_ok-do_events.ensures.works plan given (c.loop.invariant.works plan given was));
    }

pub wait_and_take-requires-clause-unfinished : goal.wait_and_take-requires-clause-unfinished
wait_and_take-requires-clause-unfinished g c κs ls plan state keeps stands = sym (c.is_finished.ensures.by_lists plan state keeps stands) ∙ c.if-is_finished.false
