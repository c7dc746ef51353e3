use Rattle.std.proofs.Common.{◌≡◌, true, ◌+◌, ◌<◌, ◌^◌, List, length, sym, subst, arith, refl, ap, ◌∙◌, length-set}
use Rattle.std.specs.List.{slice_get}
use Rattle.dine_rules.specs.declared.letters.Letter.{Letter}
use Rattle.dine_rules.specs.declared.letters.Letter.TheVariants as letter
use Rattle.std.proofs.lemmas.List.{length-map}
use Rattle.dine_site_thread.specs.Ports.{SeenPort, seen_port}
use Rattle.dine_site_thread.specs.private.Running.{SeenRun, ClosedBelow, IsStopped, seen_run}
use Rattle.dine_site_thread.proofs.shared.lists.Seen.{there_is, if_there, of_there}
use Rattle.dine_rules.specs.Local.{is_eating}
use Rattle.dine_rules.specs.Steps.{Break}
use Rattle.dine_site.specs.Core.{SeenCore}
use Rattle.dine_site.specs.Standing.{CorePuts}
use Rattle.dine_site_thread.proofs.one_site.Stops.{break_live, break_room, break_sends}
use Rattle.dine_site_thread.proofs.one_site.Ends.{closed_already, closed_more}
use Rattle.dine_site_thread.proofs.one_site.Same.{same_at_place, same_but_ports}
use Rattle.dine_site_thread.proofs.site_loop.running.Running.break_at.Goals as goal

pub close_at-requires-clause-live : goal.close_at-requires-clause-live
close_at-requires-clause-live g c κs ls =
    let p = c.requires.stopped in
    let run : SeenRun g.L.Lane.Identity = seen_run g.L.Lane c.args.self.now in
    let puts : CorePuts c.args.i (Break c.args.i) c.args.self.now.core c.break_off.new.self letter.Close = subst (λ (l : Letter). CorePuts c.args.i (Break c.args.i) c.args.self.now.core c.break_off.new.self l) c.in-Some.ensures.letter c.in-Some.ensures.step in
    if_there (λ (port : SeenPort g.L.Lane.Identity). port.is_live ≡ true) (slice_get run.ports c.args.i) (break_live p.2.0 p.2.1 run p.0 p.1 p.2.2 c.args.i c.break_off.new.self puts)

pub close_at-requires-clause-few_letters : goal.close_at-requires-clause-few_letters
close_at-requires-clause-few_letters g c κs ls =
    let p = c.requires.stopped in
    let run : SeenRun g.L.Lane.Identity = seen_run g.L.Lane c.args.self.now in
    let puts : CorePuts c.args.i (Break c.args.i) c.args.self.now.core c.break_off.new.self letter.Close = subst (λ (l : Letter). CorePuts c.args.i (Break c.args.i) c.args.self.now.core c.break_off.new.self l) c.in-Some.ensures.letter c.in-Some.ensures.step in
    if_there (λ (port : SeenPort g.L.Lane.Identity). length port.tx.letters < 2 ^ 61) (slice_get run.ports c.args.i)
    (λ port at. break_room p.2.0 p.2.1 run p.0 p.1 p.2.2 c.args.i c.break_off.new.self puts port at c.few_letters_are_put.ensures.letters)

pub returns-clause-way : goal.returns-clause-way
returns-clause-way g c stray cause plan given stopped =
    let run : SeenRun g.L.Lane.Identity = seen_run g.L.Lane c.args.self.now in
    let puts : CorePuts c.args.i (Break c.args.i) c.args.self.now.core c.break_off.new.self letter.Close = subst (λ (l : Letter). CorePuts c.args.i (Break c.args.i) c.args.self.now.core c.break_off.new.self l) c.in-Some.ensures.letter c.in-Some.ensures.step in
    let within : c.args.i < length run.ports = omega (arith, c.requires.place, stopped.has.places) in
    let there = there_is run.ports c.args.i within in
    let sent = of_there _ (slice_get run.ports c.args.i) there.0 there.1 c.close_at.ensures.closed in
    subst (λ (ps : List (SeenPort g.L.Lane.Identity)). IsStopped stray cause plan given (record { manner = run.manner; core = c.break_off.new.self; ports = ps; bell = run.bell; journal = run.journal })) (sym sent.2)
    (break_sends plan given run stray cause stopped c.args.i c.break_off.new.self puts there.0 there.1 c.first.result.at sent.0 c.close_at.result sent.1)

pub returns-clause-closed : goal.returns-clause-closed
returns-clause-closed g c =
    subst (λ (k : SeenCore). ClosedBelow (c.args.i + 1) k) (sym c.in-Some.ensures.core) (closed_more c.args.self.now.core c.args.i c.requires.place c.requires.before)

pub close_at-requires-clause-place : goal.close_at-requires-clause-place
close_at-requires-clause-place g c κs ls =
    let ports = length-map c.args.self.now.ports.items (seen_port g.L.Lane) in
    omega (arith, c.requires.place, c.requires.stopped.2.2.has.places, ports, c.args.self.now.ports.ok.0)

pub returns-clause-same : goal.returns-clause-same
returns-clause-same g c = same_at_place c.args.self.now c.break_off.new.self c.close_at.new.ports c.args.i _ c.args.self.now.journal c.args.self.now.clock _ c.in-Some.ensures.core c.close_at.ensures.count

pub returns-clause-places : goal.returns-clause-places
returns-clause-places g c = ap (λ (core : SeenCore). length core.places) c.in-Some.ensures.core ∙ length-set c.args.self.now.core.places c.args.i _

-- ---- Close was put before

pub break_off-requires-clause-not_eating : goal.break_off-requires-clause-not_eating
break_off-requires-clause-not_eating g c =
    let has = c.requires.stopped.2.2.has in
    ap is_eating has.stands.phase ∙ has.rests

pub returns-in_default : goal.returns-in_default
returns-in_default g c =
    let run : SeenRun g.L.Lane.Identity = seen_run g.L.Lane c.args.self.now in
    let is = c.in_default.ensures.letter in
    record {
      way = λ stray cause plan given stopped. subst (λ (k : SeenCore). IsStopped stray cause plan given (record { manner = run.manner; core = k; ports = run.ports; bell = run.bell; journal = run.journal })) (sym is) stopped;
      closed = subst (ClosedBelow (c.args.i + 1)) (sym is) (closed_already c.args.self.now.core c.args.i c.in_default.ensures.none c.requires.before);
      places = ap (λ (core : SeenCore). length core.places) is;
      same = same_but_ports c.args.self.now c.break_off.new.self c.args.self.now.ports c.args.self.now.journal c.args.self.now.log is refl;
      checks = λ first are. are;
    }
