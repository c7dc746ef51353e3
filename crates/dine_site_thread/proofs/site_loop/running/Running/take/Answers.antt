use Rattle.std.proofs.Common.{◌≡◌, ◌<◌, false, length, List, Result, Err, ap, sym, subst, rules}
use Rattle.std.specs.Prelude.{OnOk}
use Rattle.dine_site_thread.specs.declared.site_loop.running.Stop.{Stop}
use Rattle.dine_rules.specs.Letters.{has_close}
use Rattle.dine_rules.specs.Local.{traffic_at}
use Rattle.dine_site.specs.Core.{SeenCore}
use Rattle.dine_site.specs.Standing.{ForEachState}
use Rattle.dine_site_thread.specs.declared.manner.Manner.{Manner}
use Rattle.dine_site_thread.specs.private.Running.{GoesOn, IsRunning, IsTimedRun, Leads, MayTakeNow, IsToTake, SeenRun, WorksOn, memo_of, seen_run}
use Rattle.dine_site_thread.specs.Threads.{Memo}
use Rattle.dine_link.specs.declared.deed.Deed.{Deed}
use Rattle.dine_link.specs.declared.thread_log.ThreadLog.{ThreadLog}
use Rattle.dine_site_thread.proofs.one_site.Times.{on_ok}
use Rattle.dine_site_thread.proofs.one_site.Same.{same_then}
use Rattle.dine_site_thread.proofs.site_loop.running.Running.take.Goals as goal

pub returns-clause-way : goal.returns-clause-way
returns-clause-way g c plan given running = c.take_and_note.ensures.way plan given (c.in_ok-make_room.ensures.way plan given running)

pub returns-clause-same : goal.returns-clause-same
returns-clause-same g c = same_then c.make_room.ensures.same c.take_and_note.ensures.same

pub returns-clause-timed : goal.returns-clause-timed
returns-clause-timed g c = on_ok c.take_and_note.result (λ goes timed. goes (c.make_room.ensures.timed timed)) c.take_and_note.ensures.timed

pub returns-clause-checks : goal.returns-clause-checks
returns-clause-checks g c first are = c.take_and_note.ensures.checks first (c.make_room.ensures.checks first are)

pub returns-in_err-make_room : goal.returns-in_err-make_room
returns-in_err-make_room g c =
    let stop = c.in_err-make_room.field-0.0 in
    let is : c.from_residual.result ≡ Err stop = search rules in
    record {
      way = subst (λ (result : Result (Unit {0}) Stop). Leads g.L.Lane IsRunning (GoesOn result) c.args.self.now c.make_room.new.self) (sym is) c.in_err-make_room.ensures.way;
      same = c.make_room.ensures.same;
      timed = subst (λ (result : Result (Unit {0}) Stop). OnOk result (IsTimedRun g.L.Lane c.args.self.now → IsTimedRun g.L.Lane c.make_room.new.self)) (sym is) tt;
      checks = c.make_room.ensures.checks;
      works = subst (λ (result : Result (Unit {0}) Stop). WorksOn g.L.Lane (IsToTake c.args.i) result c.args.self.now c.make_room.new.self) (sym is) (λ plan given was. tt);
    }

pub take_and_note-requires-clause-running : goal.take_and_note-requires-clause-running
take_and_note-requires-clause-running g c κs ls =
    let p = c.requires.running in
    (p.0, p.1, c.in_ok-make_room.ensures.way p.0 p.1 p.2)

pub take_and_note-requires-clause-place : goal.take_and_note-requires-clause-place
take_and_note-requires-clause-place g c κs ls = subst (λ (core : SeenCore). c.args.i < length core.places) (sym c.make_room.ensures.core) c.requires.place

pub take_and_note-requires-clause-not_closed : goal.take_and_note-requires-clause-not_closed
take_and_note-requires-clause-not_closed g c κs ls =
    subst (λ (core : SeenCore). ForEachState core (λ plan state. has_close (traffic_at state c.args.i).taken ≡ false)) (sym c.make_room.ensures.core) c.requires.not_closed

pub take_and_note-requires-clause-turn : goal.take_and_note-requires-clause-turn
take_and_note-requires-clause-turn g c κs ls =
    subst (λ (manner : Manner). MayTakeNow manner c.make_room.new.self.core) (sym c.make_room.ensures.same.manner)
    (subst (λ (core : SeenCore). MayTakeNow c.args.self.now.manner core) (sym c.make_room.ensures.core) c.requires.turn)

pub returns-clause-works : goal.returns-clause-works
returns-clause-works g c plan given was =
    let old = c.args.self.now in
    let new = c.make_room.new.self in
    let logged = subst (λ (ds : List Deed). IsToTake c.args.i plan given (seen_run g.L.Lane old) (memo_of old) ds) (ap (λ (log : ThreadLog). log.deeds) (sym c.make_room.ensures.log)) was in
    let seen = subst (λ (run : SeenRun g.L.Lane.Identity). IsToTake c.args.i plan given run (memo_of old) new.log.deeds) (sym c.in_ok-make_room.ensures.running) logged in
    c.take_and_note.ensures.works plan given (subst (λ (memo : Memo). IsToTake c.args.i plan given (seen_run g.L.Lane new) memo new.log.deeds) (sym c.make_room.ensures.memo) seen)
