use Rattle.std.proofs.Common.{List, refl, ap, sym, subst}
use Rattle.dine_rules.specs.declared.events.EventKind.{EventKind}
use Rattle.dine_site_thread.specs.declared.site_end.SiteFault.TheVariants as fault
use Rattle.dine_site_thread.specs.private.Running.{AreChecks, SeenRun, IsRunning, IsStopped, seen_run}
use Rattle.std.proofs.Common.{None}
use Rattle.dine_site_thread.specs.Ports.{seen_ports}
use Rattle.dine_site_thread.specs.Times.{IsTimed, none_late}
use Rattle.dine_site_thread.proofs.one_site.Same.{same_but_ports}
use Rattle.dine_site_thread.proofs.one_site.Stops.{memory_stop}
use Rattle.dine_site_thread.proofs.site_loop.running.Running.make_room.Goals as goal

pub returns-in-Ok-clause-running : goal.returns-in-Ok-clause-running
returns-in-Ok-clause-running g c =
    let run : SeenRun g.L.Lane.Identity = seen_run g.L.Lane c.args.self.now in
    ap (λ (kinds : List EventKind). record run { journal = kinds }) c.reserve.ensures.items

pub returns-in-Ok-clause-way : goal.returns-in-Ok-clause-way
returns-in-Ok-clause-way g c plan given running = subst (λ (run : SeenRun g.L.Lane.Identity). IsRunning plan given run) (sym (returns-in-Ok-clause-running g c)) running

pub returns-in-Err-clause-way : goal.returns-in-Err-clause-way
returns-in-Err-clause-way g c plan given running =
    let run : SeenRun g.L.Lane.Identity = seen_run g.L.Lane c.args.self.now in
    subst (λ (kinds : List EventKind). IsStopped None fault.Memory plan given (record run { journal = kinds })) (sym c.reserve.ensures.items) (memory_stop plan given run running)

pub returns-in-Ok-clause-same : goal.returns-in-Ok-clause-same
returns-in-Ok-clause-same g c = same_but_ports c.args.self.now c.args.self.now.core c.args.self.now.ports c.reserve.new.self c.args.self.now.log refl refl

pub returns-in-Ok-clause-timed : goal.returns-in-Ok-clause-timed
returns-in-Ok-clause-timed g c timed = subst (λ (kinds : List EventKind). IsTimed none_late c.args.self.now.clock.events kinds (seen_ports g.L.Lane c.args.self.now.ports.items)) (sym c.reserve.ensures.items) timed

pub returns-in-Ok-clause-checks : goal.returns-in-Ok-clause-checks
returns-in-Ok-clause-checks g c first are =
    let old = c.args.self.now in
    subst (λ (kinds : List EventKind). AreChecks first old.manner old.tally old.bell.found_empty old.clock.events kinds) (sym c.reserve.ensures.items) are

pub returns-in-Err-clause-same : goal.returns-in-Err-clause-same
returns-in-Err-clause-same g c = same_but_ports c.args.self.now c.args.self.now.core c.args.self.now.ports c.reserve.new.self c.args.self.now.log refl refl

pub returns-in-Err-clause-timed : goal.returns-in-Err-clause-timed
returns-in-Err-clause-timed g c timed = subst (λ (kinds : List EventKind). IsTimed none_late c.args.self.now.clock.events kinds (seen_ports g.L.Lane c.args.self.now.ports.items)) (sym c.reserve.ensures.items) timed

pub returns-in-Err-clause-checks : goal.returns-in-Err-clause-checks
returns-in-Err-clause-checks g c first are =
    let old = c.args.self.now in
    subst (λ (kinds : List EventKind). AreChecks first old.manner old.tally old.bell.found_empty old.clock.events kinds) (sym c.reserve.ensures.items) are
