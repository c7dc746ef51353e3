use Rattle.std.proofs.Common.{ℕ, ◌<◌, List, length, set, Some, None, refl, sym, subst, arith}
use Rattle.std.proofs.lemmas.List.{length-map}
use Rattle.dine_rules.specs.declared.letters.Letter.{Letter}
use Rattle.dine_site_thread.specs.Times.{IsTimed, none_late}
use Rattle.dine_site_thread.specs.private.Running.{late_at}
use Rattle.dine_site_thread.proofs.one_site.Times.{ends_put}
use Rattle.dine_site_thread.specs.declared.site_end.SiteFault.TheVariants as fault
use Rattle.dine_site_thread.specs.Ports.{SeenPort, seen_port, seen_ports}
use Rattle.dine_site_thread.specs.private.PortSteps.{port_after_put, port_after_unheard_put, port_after_refusal}
use Rattle.dine_site_thread.specs.private.Running.{SeenRun, IsRunning, IsStopped, IsWorking, memo_of, seen_run}
use Rattle.dine_link.specs.declared.deed.Deed.{Deed}
use Rattle.dine_rules.specs.Steps.{with_put}
use Rattle.dine_site_thread.specs.Threads.{HasWorked}
use Rattle.dine_site_thread.proofs.shared.lists.Seen.{seen_at, seen_set}
use Rattle.dine_site_thread.proofs.shared.one_site.Letters.{stops-unheard}
use Rattle.dine_site_thread.proofs.one_site.Stops.{put_stops, unheard_stops}
use Rattle.dine_site_thread.specs.declared.site_loop.running.Stop.{Stop}
use Rattle.dine_rules.specs.Local.{traffic_at}
use Rattle.dine_site_thread.proofs.one_site.Ways.{put_runs, putting_within, put_live, put_room}
use Rattle.dine_site_thread.proofs.one_site.Same.{same_but_ports}
use Rattle.dine_site_thread.proofs.site_loop.running.Running.put.Goals as goal

pub put-requires-clause-live : goal.put-requires-clause-live
put-requires-clause-live g c κs ls =
    let f = seen_port g.L.Lane in
    let items = c.args.self.now.ports.items in
    let p = c.requires.putting in
    let within : c.args.i < length items = omega (arith, putting_within p.0 p.1 (seen_run g.L.Lane c.args.self.now) c.args.i c.args.letter p.2, length-map items f) in
    let at = seen_at f items c.args.i c.index_mut.result.now within c.index_mut.ensures.value in
    put_live p.0 p.1 (seen_run g.L.Lane c.args.self.now) c.args.i c.args.letter p.2 (f c.index_mut.result.now) at

pub put-requires-clause-few_letters : goal.put-requires-clause-few_letters
put-requires-clause-few_letters g c κs ls =
    let f = seen_port g.L.Lane in
    let items = c.args.self.now.ports.items in
    let p = c.requires.putting in
    let within : c.args.i < length items = omega (arith, putting_within p.0 p.1 (seen_run g.L.Lane c.args.self.now) c.args.i c.args.letter p.2, length-map items f) in
    let at = seen_at f items c.args.i c.index_mut.result.now within c.index_mut.ensures.value in
    put_room p.0 p.1 (seen_run g.L.Lane c.args.self.now) c.args.i c.args.letter p.2 (f c.index_mut.result.now) at c.few_letters_are_put.ensures.letters

pub returns-in-Heard-clause-way : goal.returns-in-Heard-clause-way
returns-in-Heard-clause-way g c plan given putting =
    let f = seen_port g.L.Lane in
    let items = c.args.self.now.ports.items in
    let run : SeenRun g.L.Lane.Identity = seen_run g.L.Lane c.args.self.now in
    let within : c.args.i < length items = omega (arith, putting_within plan given run c.args.i c.args.letter putting, length-map items f) in
    let at = seen_at f items c.args.i c.index_mut.result.now within c.index_mut.ensures.value in
    let ports = seen_set f items c.args.i c.put.new.self (port_after_put c.last-stamp.result.at c.args.letter (f c.index_mut.result.now)) c.in-Heard.ensures.sends in
    let runs = put_runs plan given run c.args.i c.args.letter putting (f c.index_mut.result.now) at c.last-stamp.result.at c.requires.letter in
    subst (λ (ps : List (SeenPort g.L.Lane.Identity)). IsRunning plan given (record { manner = run.manner; core = run.core; ports = ps; bell = run.bell; journal = run.journal })) (sym ports) runs

pub returns-in-Refused-clause-way : goal.returns-in-Refused-clause-way
returns-in-Refused-clause-way g c plan given putting =
    let f = seen_port g.L.Lane in
    let items = c.args.self.now.ports.items in
    let run : SeenRun g.L.Lane.Identity = seen_run g.L.Lane c.args.self.now in
    let within : c.args.i < length items = omega (arith, putting_within plan given run c.args.i c.args.letter putting, length-map items f) in
    let at = seen_at f items c.args.i c.index_mut.result.now within c.index_mut.ensures.value in
    let ports = seen_set f items c.args.i c.put.new.self (port_after_refusal (f c.index_mut.result.now)) c.in-Refused.ensures.sends.1 in
    let stops = put_stops plan given run c.args.i c.args.letter c.requires.letter putting (f c.index_mut.result.now) at in
    let new : SeenRun g.L.Lane.Identity = record { manner = run.manner; core = run.core; ports = seen_ports g.L.Lane (set items c.args.i c.put.new.self); bell = run.bell; journal = run.journal } in
    let there : IsStopped (Some (record { link = c.args.i; letter = c.args.letter })) (fault.Lost c.args.i) plan given new =
    subst (λ (ps : List (SeenPort g.L.Lane.Identity)). IsStopped (Some (record { link = c.args.i; letter = c.args.letter })) (fault.Lost c.args.i) plan given (record { manner = run.manner; core = run.core; ports = ps; bell = run.bell; journal = run.journal })) (sym ports) stops in
    subst (λ (l : Letter). IsStopped (Some (record { link = c.args.i; letter = l })) (fault.Lost c.args.i) plan given new) (sym c.in-Refused.ensures.sends.0) there

pub returns-in-Unheard-clause-way : goal.returns-in-Unheard-clause-way
returns-in-Unheard-clause-way g c plan given putting =
    let f = seen_port g.L.Lane in
    let items = c.args.self.now.ports.items in
    let run : SeenRun g.L.Lane.Identity = seen_run g.L.Lane c.args.self.now in
    let within : c.args.i < length items = omega (arith, putting_within plan given run c.args.i c.args.letter putting, length-map items f) in
    let at = seen_at f items c.args.i c.index_mut.result.now within c.index_mut.ensures.value in
    let old = f c.index_mut.result.now in
    let ports = seen_set f items c.args.i c.put.new.self (port_after_unheard_put c.last-stamp.result.at c.args.letter old) c.in-Unheard.ensures.sends in
    let stops = unheard_stops plan given run c.args.i c.args.letter putting old (port_after_unheard_put c.last-stamp.result.at c.args.letter old) at (record { tx = refl; rx = refl; bell = refl; number = refl })
    (stops-unheard (traffic_at putting.before c.args.i) old (putting.lists c.args.i old at) c.last-stamp.result.at c.args.letter putting.open_place) refl refl in
    let new : SeenRun g.L.Lane.Identity = record { manner = run.manner; core = run.core; ports = seen_ports g.L.Lane (set items c.args.i c.put.new.self); bell = run.bell; journal = run.journal } in
    let there : IsStopped None (fault.LostBell (length c.args.self.now.core.places)) plan given new =
    subst (λ (ps : List (SeenPort g.L.Lane.Identity)). IsStopped None (fault.LostBell (length c.args.self.now.core.places)) plan given (record { manner = run.manner; core = run.core; ports = ps; bell = run.bell; journal = run.journal })) (sym ports) stops in
    subst (λ (stop : Stop). IsStopped stop.stray stop.fault plan given new) (sym c.lost_bell.ensures) there

pub returns-in-Heard-clause-timed : goal.returns-in-Heard-clause-timed
returns-in-Heard-clause-timed g c = λ timed.
    let f = seen_port g.L.Lane in
    let items = c.args.self.now.ports.items in
    let run : SeenRun g.L.Lane.Identity = seen_run g.L.Lane c.args.self.now in
    let p = c.requires.putting in
    let within : c.args.i < length items = omega (arith, putting_within p.0 p.1 run c.args.i c.args.letter p.2, length-map items f) in
    let at = seen_at f items c.args.i c.index_mut.result.now within c.index_mut.ensures.value in
    let old : SeenPort g.L.Lane.Identity = f c.index_mut.result.now in
    let new : SeenPort g.L.Lane.Identity = port_after_put c.last-stamp.result.at c.args.letter old in
    let ports = seen_set f items c.args.i c.put.new.self new c.in-Heard.ensures.sends in
    let late = subst (λ (z : ℕ). IsTimed (late_at c.args.i z) c.args.self.now.clock.events c.args.self.now.journal.items run.ports) (sym c.last-stamp.ensures) timed in
    subst (IsTimed none_late c.args.self.now.clock.events c.args.self.now.journal.items) (sym ports)
    (ends_put c.args.self.now.clock.events c.args.self.now.journal.items run.ports c.args.i c.last-stamp.result.at old new late at refl refl)

pub index_mut-requires : goal.index_mut-requires
index_mut-requires g c =
    let p = c.requires.putting in
    let within = putting_within p.0 p.1 (seen_run g.L.Lane c.args.self.now) c.args.i c.args.letter p.2 in
    omega (arith, within, length-map c.args.self.now.ports.items (seen_port g.L.Lane), c.args.self.now.ports.ok.0)

pub returns-in-Heard-clause-same : goal.returns-in-Heard-clause-same
returns-in-Heard-clause-same g c = same_but_ports c.args.self.now c.args.self.now.core _ c.args.self.now.journal _ refl refl

pub returns-in-Unheard-clause-same : goal.returns-in-Unheard-clause-same
returns-in-Unheard-clause-same g c = same_but_ports c.args.self.now c.args.self.now.core _ c.args.self.now.journal _ refl refl

pub returns-in-Refused-clause-same : goal.returns-in-Refused-clause-same
returns-in-Refused-clause-same g c = same_but_ports c.args.self.now c.args.self.now.core _ c.args.self.now.journal _ refl refl

pub returns-in-Heard-clause-checks : goal.returns-in-Heard-clause-checks
returns-in-Heard-clause-checks g c first are = are

pub returns-in-Unheard-clause-timed : goal.returns-in-Unheard-clause-timed
returns-in-Unheard-clause-timed g c = tt

pub returns-in-Unheard-clause-checks : goal.returns-in-Unheard-clause-checks
returns-in-Unheard-clause-checks g c first are = are

pub returns-in-Refused-clause-timed : goal.returns-in-Refused-clause-timed
returns-in-Refused-clause-timed g c = tt

pub returns-in-Refused-clause-checks : goal.returns-in-Refused-clause-checks
returns-in-Refused-clause-checks g c first are = are

pub returns-in-Heard-clause-works : goal.returns-in-Heard-clause-works
unfolding put_runs
returns-in-Heard-clause-works g c plan given was =
    let putting = was.0 in
    let f = seen_port g.L.Lane in
    let items = c.args.self.now.ports.items in
    let run : SeenRun g.L.Lane.Identity = seen_run g.L.Lane c.args.self.now in
    let within : c.args.i < length items = omega (arith, putting_within plan given run c.args.i c.args.letter putting, length-map items f) in
    let at = seen_at f items c.args.i c.index_mut.result.now within c.index_mut.ensures.value in
    let ports = seen_set f items c.args.i c.put.new.self (port_after_put c.last-stamp.result.at c.args.letter (f c.index_mut.result.now)) c.in-Heard.ensures.sends in
    let runs = put_runs plan given run c.args.i c.args.letter putting (f c.index_mut.result.now) at c.last-stamp.result.at c.requires.letter in
    let worked = subst (λ (ds : List Deed). HasWorked run.manner plan run.core.site run.journal (with_put c.args.i c.args.letter putting.before) (memo_of c.args.self.now) ds) (sym c.in-Heard.ensures.noted.deeds) (was.1 c.in-Heard.ensures.noted.woken) in
    subst (λ (ps : List (SeenPort g.L.Lane.Identity)). IsWorking plan given (record { manner = run.manner; core = run.core; ports = ps; bell = run.bell; journal = run.journal }) (memo_of c.args.self.now) c.put.new.log.deeds) (sym ports) (runs, worked)

pub returns-in-Unheard-clause-works : goal.returns-in-Unheard-clause-works
returns-in-Unheard-clause-works g c plan given was = tt

pub returns-in-Refused-clause-works : goal.returns-in-Refused-clause-works
returns-in-Refused-clause-works g c plan given was = tt
