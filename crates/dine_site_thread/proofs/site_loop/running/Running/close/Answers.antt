use Rattle.std.proofs.Common.{◌≡◌, true, ◌<◌, ◌^◌, List, length, set, None, refl, sym, ◌∙◌, ap, subst}
use Rattle.std.specs.List.{slice_get}
use Rattle.dine_rules.specs.declared.letters.Letter.TheVariants as letter
use Rattle.std.specs.Prelude.{ℕ}
use Rattle.dine_site_thread.specs.Times.{IsTimed, none_late}
use Rattle.dine_site_thread.specs.private.Running.{late_at, IsWorking, memo_of}
use Rattle.dine_link.specs.declared.deed.Deed.{Deed}
use Rattle.dine_rules.specs.Steps.{with_put}
use Rattle.dine_site_thread.specs.Threads.{HasWorked}
use Rattle.dine_site_thread.proofs.one_site.Times.{ends_put}
use Rattle.dine_site_thread.specs.declared.site_end.SiteFault.TheVariants as fault
use Rattle.dine_site_thread.specs.Ports.{SeenPort, seen_ports}
use Rattle.dine_site_thread.specs.private.PortSteps.{port_after_close, port_after_unheard_close, port_after_refusal}
use Rattle.dine_site_thread.specs.private.Running.{SeenRun, IsRunning, IsStopped, seen_run}
use Rattle.dine_site_thread.proofs.shared.lists.Seen.{there_is, if_there, of_there}
use Rattle.dine_site_thread.proofs.shared.one_site.Letters.{stops-closed_unheard}
use Rattle.dine_site_thread.proofs.one_site.Stops.{close_stops, unheard_stops}
use Rattle.dine_site_thread.specs.declared.site_loop.running.Stop.{Stop}
use Rattle.dine_rules.specs.Local.{traffic_at}
use Rattle.dine_site_thread.proofs.one_site.Ways.{close_runs, putting_within, put_live, put_room}
use Rattle.dine_site_thread.proofs.one_site.Same.{same_but_ports}
use Rattle.dine_site_thread.proofs.site_loop.running.Running.close.Goals as goal

pub close_at-requires-clause-live : goal.close_at-requires-clause-live
close_at-requires-clause-live g c κs ls =
    let p = c.requires.putting in
    let run : SeenRun g.L.Lane.Identity = seen_run g.L.Lane c.args.self.now in
    if_there (λ (port : SeenPort g.L.Lane.Identity). port.is_live ≡ true) (slice_get run.ports c.args.i) (put_live p.0 p.1 run c.args.i letter.Close p.2)

pub close_at-requires-clause-few_letters : goal.close_at-requires-clause-few_letters
close_at-requires-clause-few_letters g c κs ls =
    let p = c.requires.putting in
    let run : SeenRun g.L.Lane.Identity = seen_run g.L.Lane c.args.self.now in
    if_there (λ (port : SeenPort g.L.Lane.Identity). length port.tx.letters < 2 ^ 61) (slice_get run.ports c.args.i)
    (λ port at. put_room p.0 p.1 run c.args.i letter.Close p.2 port at c.few_letters_are_put.ensures.letters)

pub returns-in-Heard-clause-way : goal.returns-in-Heard-clause-way
returns-in-Heard-clause-way g c plan given putting =
    let run : SeenRun g.L.Lane.Identity = seen_run g.L.Lane c.args.self.now in
    let there = there_is run.ports c.args.i (putting_within plan given run c.args.i letter.Close putting) in
    let sent = of_there _ (slice_get run.ports c.args.i) there.0 there.1 c.in-Heard.ensures.closed in
    let ports : seen_ports g.L.Lane c.close_at.new.ports.items ≡ set run.ports c.args.i (port_after_close c.last-stamp.result.at there.0) = sent.2 ∙ ap (set run.ports c.args.i) sent.1 in
    subst (λ (ps : List (SeenPort g.L.Lane.Identity)). IsRunning plan given (record { manner = run.manner; core = run.core; ports = ps; bell = run.bell; journal = run.journal })) (sym ports) (close_runs plan given run c.last-stamp.result.at c.args.i putting there.0 there.1)

pub returns-in-Refused-clause-way : goal.returns-in-Refused-clause-way
returns-in-Refused-clause-way g c plan given putting =
    let run : SeenRun g.L.Lane.Identity = seen_run g.L.Lane c.args.self.now in
    let there = there_is run.ports c.args.i (putting_within plan given run c.args.i letter.Close putting) in
    let sent = of_there _ (slice_get run.ports c.args.i) there.0 there.1 c.in-Refused.ensures.closed in
    let ports : seen_ports g.L.Lane c.close_at.new.ports.items ≡ set run.ports c.args.i (port_after_refusal there.0) = sent.2 ∙ ap (set run.ports c.args.i) sent.1 in
    subst (λ (ps : List (SeenPort g.L.Lane.Identity)). IsStopped None (fault.Lost c.args.i) plan given (record { manner = run.manner; core = run.core; ports = ps; bell = run.bell; journal = run.journal })) (sym ports) (close_stops plan given run c.args.i putting there.0 there.1)

pub returns-in-Unheard-clause-way : goal.returns-in-Unheard-clause-way
returns-in-Unheard-clause-way g c plan given putting =
    let run : SeenRun g.L.Lane.Identity = seen_run g.L.Lane c.args.self.now in
    let there = there_is run.ports c.args.i (putting_within plan given run c.args.i letter.Close putting) in
    let sent = of_there _ (slice_get run.ports c.args.i) there.0 there.1 c.in-Unheard.ensures.closed in
    let ports : seen_ports g.L.Lane c.close_at.new.ports.items ≡ set run.ports c.args.i (port_after_unheard_close c.last-stamp.result.at there.0) = sent.2 ∙ ap (set run.ports c.args.i) sent.1 in
    let stops = unheard_stops plan given run c.args.i letter.Close putting there.0 (port_after_unheard_close c.last-stamp.result.at there.0) there.1 (record { tx = refl; rx = refl; bell = refl; number = refl })
    (stops-closed_unheard (traffic_at putting.before c.args.i) there.0 (putting.lists c.args.i there.0 there.1) c.last-stamp.result.at) refl refl in
    let new : SeenRun g.L.Lane.Identity = record { manner = run.manner; core = run.core; ports = seen_ports g.L.Lane c.close_at.new.ports.items; bell = run.bell; journal = run.journal } in
    let stopped : IsStopped None (fault.LostBell (length c.args.self.now.core.places)) plan given new =
    subst (λ (ps : List (SeenPort g.L.Lane.Identity)). IsStopped None (fault.LostBell (length c.args.self.now.core.places)) plan given (record { manner = run.manner; core = run.core; ports = ps; bell = run.bell; journal = run.journal })) (sym ports) stops in
    subst (λ (stop : Stop). IsStopped stop.stray stop.fault plan given new) (sym c.lost_bell.ensures) stopped

pub returns-in-Heard-clause-timed : goal.returns-in-Heard-clause-timed
returns-in-Heard-clause-timed g c = λ timed.
    let run : SeenRun g.L.Lane.Identity = seen_run g.L.Lane c.args.self.now in
    let p = c.requires.putting in
    let there = there_is run.ports c.args.i (putting_within p.0 p.1 run c.args.i letter.Close p.2) in
    let sent = of_there _ (slice_get run.ports c.args.i) there.0 there.1 c.in-Heard.ensures.closed in
    let new : SeenPort g.L.Lane.Identity = port_after_close c.last-stamp.result.at there.0 in
    let ports : seen_ports g.L.Lane c.close_at.new.ports.items ≡ set run.ports c.args.i (port_after_close c.last-stamp.result.at there.0) = sent.2 ∙ ap (set run.ports c.args.i) sent.1 in
    let late = subst (λ (z : ℕ). IsTimed (late_at c.args.i z) c.args.self.now.clock.events c.args.self.now.journal.items run.ports) (sym c.last-stamp.ensures) timed in
    subst (IsTimed none_late c.args.self.now.clock.events c.args.self.now.journal.items) (sym ports)
    (ends_put c.args.self.now.clock.events c.args.self.now.journal.items run.ports c.args.i c.last-stamp.result.at there.0 new late there.1 refl refl)

pub returns-in-Heard-clause-same : goal.returns-in-Heard-clause-same
returns-in-Heard-clause-same g c = same_but_ports c.args.self.now c.args.self.now.core c.close_at.new.ports c.args.self.now.journal _ refl c.close_at.ensures.count

pub returns-in-Unheard-clause-same : goal.returns-in-Unheard-clause-same
returns-in-Unheard-clause-same g c = same_but_ports c.args.self.now c.args.self.now.core c.close_at.new.ports c.args.self.now.journal _ refl c.close_at.ensures.count

pub returns-in-Refused-clause-same : goal.returns-in-Refused-clause-same
returns-in-Refused-clause-same g c = same_but_ports c.args.self.now c.args.self.now.core c.close_at.new.ports c.args.self.now.journal _ refl c.close_at.ensures.count

pub returns-in-Heard-clause-checks : goal.returns-in-Heard-clause-checks
returns-in-Heard-clause-checks g c first are = are

pub returns-in-Unheard-clause-timed : goal.returns-in-Unheard-clause-timed
returns-in-Unheard-clause-timed g c = tt

pub returns-in-Unheard-clause-checks : goal.returns-in-Unheard-clause-checks
returns-in-Unheard-clause-checks g c first are = are

pub returns-in-Refused-clause-timed : goal.returns-in-Refused-clause-timed
returns-in-Refused-clause-timed g c = tt

pub returns-in-Refused-clause-checks : goal.returns-in-Refused-clause-checks
returns-in-Refused-clause-checks g c first are = are

pub returns-in-Heard-clause-works : goal.returns-in-Heard-clause-works
unfolding close_runs
returns-in-Heard-clause-works g c plan given was =
    let putting = was.0 in
    let run : SeenRun g.L.Lane.Identity = seen_run g.L.Lane c.args.self.now in
    let there = there_is run.ports c.args.i (putting_within plan given run c.args.i letter.Close putting) in
    let sent = of_there _ (slice_get run.ports c.args.i) there.0 there.1 c.in-Heard.ensures.closed in
    let ports : seen_ports g.L.Lane c.close_at.new.ports.items ≡ set run.ports c.args.i (port_after_close c.last-stamp.result.at there.0) = sent.2 ∙ ap (set run.ports c.args.i) sent.1 in
    let runs = close_runs plan given run c.last-stamp.result.at c.args.i putting there.0 there.1 in
    let worked = subst (λ (ds : List Deed). HasWorked run.manner plan run.core.site run.journal (with_put c.args.i letter.Close putting.before) (memo_of c.args.self.now) ds) (sym c.in-Heard.ensures.noted.deeds) (was.1 c.in-Heard.ensures.noted.woken) in
    subst (λ (ps : List (SeenPort g.L.Lane.Identity)). IsWorking plan given (record { manner = run.manner; core = run.core; ports = ps; bell = run.bell; journal = run.journal }) (memo_of c.args.self.now) c.close_at.new.log.deeds) (sym ports) (runs, worked)

pub returns-in-Unheard-clause-works : goal.returns-in-Unheard-clause-works
returns-in-Unheard-clause-works g c plan given was = tt

pub returns-in-Refused-clause-works : goal.returns-in-Refused-clause-works
returns-in-Refused-clause-works g c plan given was = tt
