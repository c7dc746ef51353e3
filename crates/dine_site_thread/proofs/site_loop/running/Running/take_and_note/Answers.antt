use Rattle.std.proofs.Common.{◌<◌, ℕ, List, length, set, Some, None, sym, ◌∙◌, ap, subst, arith}
use Rattle.std.proofs.lemmas.List.{length-map}
use Rattle.dine_rules.specs.declared.letters.Letter.{Letter}
use Rattle.std.specs.Prelude.{◌+◌, refl}
use Rattle.dine_rules.specs.Moments.{last_moment}
use Rattle.dine_rules.specs.declared.events.EventKind.TheVariants as event
use Rattle.dine_site_thread.specs.Times.{IsTimed, none_late}
use Rattle.dine_site_thread.proofs.one_site.Times.{takes_one}
use Rattle.dine_site_thread.specs.declared.site_end.SiteFault.TheVariants as fault
use Rattle.dine_site_thread.specs.Ports.{SeenPort, seen_port, seen_ports}
use Rattle.dine_site_thread.specs.private.PortSteps.{port_after_take, port_after_refused_take}
use Rattle.dine_site_thread.specs.private.Running.{SeenRun, IsRunning, IsStopped, IsWorking, memo_of, seen_run}
use Rattle.std.specs.Prelude.{◌++◌, ◌∷◌, []}
use Rattle.dine_link.specs.declared.deed.Deed.{Deed}
use Rattle.dine_link.specs.declared.deed.Deed.TheVariants.{Did}
use Rattle.dine_site_thread.specs.Threads.{HasWorked, Memo}
use Rattle.dine_rules.specs.declared.events.EventKind.{EventKind}
use Rattle.dine_rules.specs.Local.{LocalState}
use Rattle.dine_rules.specs.Steps.{Take, after}
use Rattle.dine_rules.specs.Letters.{has_close}
use Rattle.dine_site_thread.proofs.shared.lists.Seen.{seen_at, seen_set}
use Rattle.dine_site.specs.Core.{SeenCore}
use Rattle.dine_site_thread.proofs.one_site.Checks.{checks_more}
use Rattle.dine_site_thread.proofs.one_site.Stops.{breach_stops, take_stops}
use Rattle.dine_site_thread.proofs.one_site.Ways.{take_runs, take_room}
use Rattle.dine_site_thread.proofs.one_site.Same.{same_at_place, same_but_ports}
use Rattle.dine_site_thread.proofs.site_loop.running.Running.take_and_note.Goals as goal

pub index_mut-requires : goal.index_mut-requires
index_mut-requires g c =
    let ports = length-map c.args.self.now.ports.items (seen_port g.L.Lane) in
    omega (arith, c.requires.place, c.requires.running.2.has.places, ports, c.args.self.now.ports.ok.0)

pub take-requires-clause-open : goal.take-requires-clause-open
take-requires-clause-open g c κs ls =
    let f = seen_port g.L.Lane in
    let items = c.args.self.now.ports.items in
    let run : SeenRun g.L.Lane.Identity = seen_run g.L.Lane c.args.self.now in
    let p = c.requires.running in
    let within : c.args.i < length items = omega (arith, c.requires.place, p.2.has.places, length-map items f) in
    let at = seen_at f items c.args.i c.index_mut.result.now within c.index_mut.ensures.value in
    ap (λ (xs : List Letter). has_close xs) (p.2.lists c.args.i (f c.index_mut.result.now) at).takes ∙ c.requires.not_closed p.0 p.2.state p.2.has.keeps p.2.has.stands

pub take-requires-clause-few_letters : goal.take-requires-clause-few_letters
take-requires-clause-few_letters g c κs ls =
    let f = seen_port g.L.Lane in
    let items = c.args.self.now.ports.items in
    let run : SeenRun g.L.Lane.Identity = seen_run g.L.Lane c.args.self.now in
    let p = c.requires.running in
    let within : c.args.i < length items = omega (arith, c.requires.place, p.2.has.places, length-map items f) in
    let at = seen_at f items c.args.i c.index_mut.result.now within c.index_mut.ensures.value in
    take_room p.0 p.1 run c.few_letters_are_taken.ensures.letters p.2 c.args.i c.requires.place (f c.index_mut.result.now) at

pub returns-in-Ok-take-clause-way : goal.returns-in-Ok-take-clause-way
returns-in-Ok-take-clause-way g c plan given running =
    let f = seen_port g.L.Lane in
    let items = c.args.self.now.ports.items in
    let run : SeenRun g.L.Lane.Identity = seen_run g.L.Lane c.args.self.now in
    let within : c.args.i < length items = omega (arith, c.requires.place, running.has.places, length-map items f) in
    let at = seen_at f items c.args.i c.index_mut.result.now within c.index_mut.ensures.value in
    let ports = seen_set f items c.args.i c.take.new.self (port_after_take c.in-Ok.stamp.at c.in-Ok.letter (f c.index_mut.result.now)) c.in-Ok.ensures in
    let runs = take_runs plan given run c.journals_grow_by_each_event.ensures.event c.in-Ok.stamp.at c.args.i c.in-Ok.letter c.take-in-Ok.new.self c.push_reserved.new.self.items c.push_reserved.ensures.items c.requires.place c.in-Ok-take.ensures.step c.requires.turn running (f c.index_mut.result.now) at in
    subst (λ (ps : List (SeenPort g.L.Lane.Identity)). IsRunning plan given (record { manner = run.manner; core = c.take-in-Ok.new.self; ports = ps; bell = run.bell; journal = c.push_reserved.new.self.items })) (sym ports) runs

pub returns-in-Err-take-clause-way : goal.returns-in-Err-take-clause-way
returns-in-Err-take-clause-way g c plan given running =
    let f = seen_port g.L.Lane in
    let items = c.args.self.now.ports.items in
    let run : SeenRun g.L.Lane.Identity = seen_run g.L.Lane c.args.self.now in
    let within : c.args.i < length items = omega (arith, c.requires.place, running.has.places, length-map items f) in
    let at = seen_at f items c.args.i c.index_mut.result.now within c.index_mut.ensures.value in
    let ports = seen_set f items c.args.i c.take.new.self (port_after_take c.in-Ok.stamp.at c.in-Ok.letter (f c.index_mut.result.now)) c.in-Ok.ensures in
    let reported = c.in-Err-take.ensures in
    let stops = breach_stops plan given run c.in-Ok.stamp.at c.args.i c.in-Ok.letter c.in-Err-take.breach c.requires.place reported.taken running (f c.index_mut.result.now) at in
    let new = subst (λ (ps : List (SeenPort g.L.Lane.Identity)). IsStopped (Some (record { link = c.args.i; letter = c.in-Ok.letter })) (fault.Breach c.args.i c.in-Err-take.breach) plan given (record { manner = run.manner; core = run.core; ports = ps; bell = run.bell; journal = run.journal })) (sym ports) stops in
    let core = subst (λ (k : SeenCore). IsStopped (Some (record { link = c.args.i; letter = c.in-Ok.letter })) (fault.Breach c.args.i c.in-Err-take.breach) plan given (record { manner = run.manner; core = k; ports = seen_ports g.L.Lane (set items c.args.i c.take.new.self); bell = run.bell; journal = run.journal })) (sym reported.core.0) new in
    subst (λ (l : Letter). IsStopped (Some (record { link = c.args.i; letter = l })) (fault.Breach c.args.i c.in-Err-take.breach) plan given (record { manner = run.manner; core = c.take-in-Ok.new.self; ports = seen_ports g.L.Lane (set items c.args.i c.take.new.self); bell = run.bell; journal = run.journal })) (sym reported.core.1) core

pub returns-in-Err-clause-way : goal.returns-in-Err-clause-way
returns-in-Err-clause-way g c plan given running =
    let f = seen_port g.L.Lane in
    let items = c.args.self.now.ports.items in
    let run : SeenRun g.L.Lane.Identity = seen_run g.L.Lane c.args.self.now in
    let within : c.args.i < length items = omega (arith, c.requires.place, running.has.places, length-map items f) in
    let at = seen_at f items c.args.i c.index_mut.result.now within c.index_mut.ensures.value in
    let ports = seen_set f items c.args.i c.take.new.self (port_after_refused_take (f c.index_mut.result.now)) c.in-Err.ensures in
    subst (λ (ps : List (SeenPort g.L.Lane.Identity)). IsStopped None (fault.Lost c.args.i) plan given (record { manner = run.manner; core = run.core; ports = ps; bell = run.bell; journal = run.journal })) (sym ports)
    (take_stops plan given run c.args.i c.requires.place running (f c.index_mut.result.now) at)

pub returns-in-Ok-take-clause-timed : goal.returns-in-Ok-take-clause-timed
returns-in-Ok-take-clause-timed g c = λ timed.
    let f = seen_port g.L.Lane in
    let items = c.args.self.now.ports.items in
    let run : SeenRun g.L.Lane.Identity = seen_run g.L.Lane c.args.self.now in
    let within : c.args.i < length items = omega (arith, c.requires.place, c.requires.running.2.has.places, length-map items f) in
    let at = seen_at f items c.args.i c.index_mut.result.now within c.index_mut.ensures.value in
    let ports = seen_set f items c.args.i c.take.new.self (port_after_take c.in-Ok.stamp.at c.in-Ok.letter (f c.index_mut.result.now)) c.in-Ok.ensures in
    subst (IsTimed none_late c.after-self.result.events c.push_reserved.new.self.items) (sym ports)
    (takes_one c.args.self.now.clock.events c.args.self.now.journal.items run.ports (event.Take c.args.i) (last_moment c.args.self.now.clock.events + c.in-Ok.stamp.at + 1) (omega arith) timed
    c.push_reserved.new.self.items c.push_reserved.ensures.items c.after-self.result.events c.after-self.ensures c.args.i c.in-Ok.stamp.at c.in-Ok.letter (f c.index_mut.result.now) refl (omega arith) at)

pub returns-in-Ok-take-clause-checks : goal.returns-in-Ok-take-clause-checks
returns-in-Ok-take-clause-checks g c first are =
    let old = c.args.self.now in
    checks_more first old.manner old.tally old.bell.found_empty old.clock.events old.journal.items (event.Take c.args.i) (last_moment old.clock.events + c.in-Ok.stamp.at + 1) refl
    c.after-self.result.events c.after-self.ensures c.push_reserved.new.self.items c.push_reserved.ensures.items are

pub returns-in-Ok-take-clause-same : goal.returns-in-Ok-take-clause-same
returns-in-Ok-take-clause-same g c =
    same_at_place c.args.self.now c.take-in-Ok.new.self _ c.args.i _ c.push_reserved.new.self c.after-self.result _ c.in-Ok-take.ensures.core refl

pub returns-in-Err-take-clause-same : goal.returns-in-Err-take-clause-same
returns-in-Err-take-clause-same g c = same_but_ports c.args.self.now c.take-in-Ok.new.self _ c.args.self.now.journal _ c.in-Err-take.ensures.core.0 refl

pub returns-in-Err-clause-same : goal.returns-in-Err-clause-same
returns-in-Err-clause-same g c = same_but_ports c.args.self.now c.args.self.now.core _ c.args.self.now.journal _ refl refl

pub returns-in-Err-take-clause-timed : goal.returns-in-Err-take-clause-timed
returns-in-Err-take-clause-timed g c = tt

pub returns-in-Err-take-clause-checks : goal.returns-in-Err-take-clause-checks
returns-in-Err-take-clause-checks g c first are = are

pub returns-in-Err-clause-timed : goal.returns-in-Err-clause-timed
returns-in-Err-clause-timed g c = tt

pub returns-in-Err-clause-checks : goal.returns-in-Err-clause-checks
returns-in-Err-clause-checks g c first are = are

pub returns-in-Ok-take-clause-works : goal.returns-in-Ok-take-clause-works
unfolding take_runs
returns-in-Ok-take-clause-works g c plan given (running, then) =
    let f = seen_port g.L.Lane in
    let items = c.args.self.now.ports.items in
    let run : SeenRun g.L.Lane.Identity = seen_run g.L.Lane c.args.self.now in
    let within : c.args.i < length items = omega (arith, c.requires.place, running.has.places, length-map items f) in
    let at = seen_at f items c.args.i c.index_mut.result.now within c.index_mut.ensures.value in
    let ports = seen_set f items c.args.i c.take.new.self (port_after_take c.in-Ok.stamp.at c.in-Ok.letter (f c.index_mut.result.now)) c.in-Ok.ensures in
    let runs = take_runs plan given run c.journals_grow_by_each_event.ensures.event c.in-Ok.stamp.at c.args.i c.in-Ok.letter c.take-in-Ok.new.self c.push_reserved.new.self.items c.push_reserved.ensures.items c.requires.place c.in-Ok-take.ensures.step c.requires.turn running (f c.index_mut.result.now) at in
    let did = c.in-Ok-take.ensures.step plan running.state running.has.keeps running.has.stands in
    let memo : Memo = memo_of c.args.self.now in
    let state : LocalState = after plan run.core.site running.state (Take c.args.i c.in-Ok.letter) in
    let took = then c.in-Ok.letter did.allowed.needs in
    let noted = subst (λ (kinds : List EventKind). HasWorked run.manner plan run.core.site kinds state memo (c.args.self.now.log.deeds ++ Did (event.Take c.args.i) ∷ [])) (sym c.push_reserved.ensures.items) took in
    let logged = subst (λ (ds : List Deed). HasWorked run.manner plan run.core.site c.push_reserved.new.self.items state memo ds) (sym c.after_event-self.ensures) noted in
    let worked = subst (λ (n : ℕ). HasWorked run.manner plan n c.push_reserved.new.self.items state memo c.after_event-self.result.deeds) (sym did.site) logged in
    subst (λ (ps : List (SeenPort g.L.Lane.Identity)). IsWorking plan given (record { manner = run.manner; core = c.take-in-Ok.new.self; ports = ps; bell = run.bell; journal = c.push_reserved.new.self.items }) memo c.after_event-self.result.deeds) (sym ports) (runs, worked)

pub returns-in-Err-take-clause-works : goal.returns-in-Err-take-clause-works
returns-in-Err-take-clause-works g c plan given was = tt

pub returns-in-Err-clause-works : goal.returns-in-Err-clause-works
returns-in-Err-clause-works g c plan given was = tt
