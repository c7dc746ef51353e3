use Rattle.std.proofs.Common.{◌≡◌, List, Result, Err, Some, true, ap, sym, subst, rules}
use Rattle.dine_link.specs.declared.deed.Deed.{Deed}
use Rattle.dine_link.specs.declared.thread_log.ThreadLog.{ThreadLog}
use Rattle.dine_site.specs.Core.{SeenCore}
use Rattle.dine_site.specs.NextEvent.{can_by_itself}
use Rattle.std.specs.Prelude.{OnOk}
use Rattle.dine_site_thread.specs.declared.site_loop.running.Stop.{Stop}
use Rattle.dine_site_thread.specs.private.Running.{GoesOn, IsNext, IsRunning, IsTimedRun, Proceeds, IsWorking, WorksOn, SeenRun, memo_of, seen_run}
use Rattle.dine_site_thread.specs.Threads.{Memo}
use Rattle.dine_site_thread.proofs.one_site.Times.{on_ok}
use Rattle.dine_site_thread.proofs.one_site.Proceeding.{may_then, proceeds_same, proceeds_then}
use Rattle.dine_site_thread.proofs.site_loop.running.Running.act.Goals as goal

pub returns-in_err-make_room : goal.returns-in_err-make_room
returns-in_err-make_room g c =
    let stop = c.in_err-make_room.field-0.0 in
    let is : c.from_residual.result ≡ Err stop = search rules in
    record {
      proceeds = subst (λ (result : Result _ _). Proceeds g.L.Lane g.D.Diner (GoesOn result) c.args.self.now c.make_room.new.self) (sym is)
          (proceeds_same g.L.Lane g.D.Diner (GoesOn (Err stop)) c.args.self.now c.make_room.new.self c.make_room.ensures.same c.requires.ready.ready c.in_err-make_room.ensures.way);
      timed = subst (λ (result : Result (Unit {0}) Stop). OnOk result (IsTimedRun g.L.Lane c.args.self.now → IsTimedRun g.L.Lane c.make_room.new.self)) (sym is) tt;
      checks = c.make_room.ensures.checks;
      works = subst (λ (result : Result (Unit {0}) Stop). WorksOn g.L.Lane IsWorking result c.args.self.now c.make_room.new.self) (sym is) (λ plan given was. tt);
    }

pub perform-requires-clause-ready : goal.perform-requires-clause-ready
perform-requires-clause-ready g c κs ls =
    may_then g.L.Lane g.D.Diner c.requires.ready (proceeds_same g.L.Lane g.D.Diner IsRunning c.args.self.now c.make_room.new.self c.make_room.ensures.same c.requires.ready.ready c.in_ok-make_room.ensures.way)

pub perform-requires-clause-may : goal.perform-requires-clause-may
perform-requires-clause-may g c κs ls = subst (λ (core : SeenCore). can_by_itself core c.args.kind ≡ true) (sym c.make_room.ensures.core) c.requires.may

pub perform-requires-clause-next : goal.perform-requires-clause-next
perform-requires-clause-next g c κs ls = subst (λ (core : SeenCore). IsNext (Some c.args.kind) core) (sym c.make_room.ensures.core) c.requires.next

pub returns : goal.returns
returns g c = record {
  proceeds = proceeds_then g.L.Lane g.D.Diner (GoesOn c.perform.result) (proceeds_same g.L.Lane g.D.Diner IsRunning c.args.self.now c.make_room.new.self c.make_room.ensures.same c.requires.ready.ready c.in_ok-make_room.ensures.way)
      c.perform.ensures.proceeds;
  timed = on_ok c.perform.result (λ goes timed. goes (c.make_room.ensures.timed timed)) c.perform.ensures.timed;
  checks = λ first are. c.perform.ensures.checks first (c.make_room.ensures.checks first are);
  works = λ plan given was.
      let old = c.args.self.now in
      let new = c.make_room.new.self in
      let logged = subst (λ (ds : List Deed). IsWorking plan given (seen_run g.L.Lane old) (memo_of old) ds) (ap (λ (log : ThreadLog). log.deeds) (sym c.make_room.ensures.log)) was in
      let seen = subst (λ (run : SeenRun g.L.Lane.Identity). IsWorking plan given run (memo_of old) new.log.deeds) (sym c.in_ok-make_room.ensures.running) logged in
      c.perform.ensures.works plan given (subst (λ (memo : Memo). IsWorking plan given (seen_run g.L.Lane new) memo new.log.deeds) (sym c.make_room.ensures.memo) seen);
}

pub perform-requires-clause-room_for_end : goal.perform-requires-clause-room_for_end
perform-requires-clause-room_for_end g c κs within = search rules
