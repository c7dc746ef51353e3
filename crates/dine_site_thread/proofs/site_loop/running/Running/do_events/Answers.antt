use Rattle.std.proofs.Common.{◌≡◌, Result, Err, inl, length, sym, subst, rules}
use Rattle.std.specs.Prelude.{OnOk}
use Rattle.std.specs.List.{range_with_len}
use Rattle.dine_site.specs.NextEvent.{can_by_itself, own_kinds}
use Rattle.dine_site_thread.specs.declared.site_loop.running.Stop.{Stop}
use Rattle.dine_site_thread.specs.private.Running.{GoesOn, IsIdle, IsRunning, IsTimedRun, IsWorking, Proceeds, WorksOn}
use Rattle.dine_rules.proofs.shared.lists.Finds.{found_passes}
use Rattle.dine_site_thread.proofs.one_site.Proceeding.{may_then, proceeds_not, proceeds_then}
use Rattle.dine_site_thread.proofs.site_loop.running.Running.do_events.Goals as goal

pub act-requires-clause-may : goal.act-requires-clause-may
act-requires-clause-may g c κs ls =
    let core = c.loop.self.core in
    found_passes (can_by_itself core) (own_kinds (range_with_len 0 (length core.places))) c.in-Some-next_event.kind (sym c.in-Some-next_event.ensures.next)

pub act-requires-clause-next : goal.act-requires-clause-next
act-requires-clause-next g c κs ls plan state keeps stands = sym (c.in-Some-next_event.ensures.by_lists plan state keeps stands)

pub loop-init : goal.loop-init
loop-init g c = record { proceeds = proceeds_not g.L.Lane g.D.Diner c.args.self.now c.requires.ready.ready; timed = λ timed. timed; checks = λ first are. are; works = λ plan given was. was }

pub act-requires-clause-ready : goal.act-requires-clause-ready
act-requires-clause-ready g c κs ls = may_then g.L.Lane g.D.Diner c.requires.ready c.loop.invariant.proceeds

pub returns-in_err-act-in-Some-next_event : goal.returns-in_err-act-in-Some-next_event
returns-in_err-act-in-Some-next_event g c =
    let stop = c.in_err-act-in-Some-next_event.field-0.0 in
    let is : c.from_residual.result ≡ Err stop = search rules in
    record {
      proceeds = subst (λ (result : Result _ _). Proceeds g.L.Lane g.D.Diner (GoesOn result) c.args.self.now c.act.new.self) (sym is)
          (proceeds_then g.L.Lane g.D.Diner (GoesOn (Err stop)) c.loop.invariant.proceeds c.in_err-act-in-Some-next_event.ensures.proceeds);
      idle = subst (λ (result : Result (Unit {0}) Stop). OnOk result (IsIdle c.act.new.self.manner c.act.new.self.core)) (sym is) tt;
      timed = subst (λ (result : Result (Unit {0}) Stop). OnOk result (IsTimedRun g.L.Lane c.args.self.now → IsTimedRun g.L.Lane c.act.new.self)) (sym is) tt;
      checks = λ first are. c.act.ensures.checks first (c.loop.invariant.checks first are);
      works = subst (λ (result : Result (Unit {0}) Stop). WorksOn g.L.Lane IsWorking result c.args.self.now c.act.new.self) (sym is) (λ plan given was. tt);
    }

pub returns-in-None-next_event : goal.returns-in-None-next_event
returns-in-None-next_event g c = record {
  proceeds = c.loop.invariant.proceeds;
  idle = λ plan state keeps stands. inl (sym (c.in-None-next_event.ensures.by_lists plan state keeps stands));
  timed = c.loop.invariant.timed;
  checks = c.loop.invariant.checks;
  works = c.loop.invariant.works;
}

pub loop-preserved : goal.loop-preserved
loop-preserved g c = record {
  proceeds = proceeds_then g.L.Lane g.D.Diner IsRunning c.loop.invariant.proceeds c.in_ok-act-in-Some-next_event.ensures.proceeds;
  timed = λ timed. c.in_ok-act-in-Some-next_event.ensures.timed (c.loop.invariant.timed timed);
  checks = λ first are. c.act.ensures.checks first (c.loop.invariant.checks first are);
  works = λ plan given was. c.in_ok-act-in-Some-next_event.ensures.works plan given (c.loop.invariant.works plan given was);
}
