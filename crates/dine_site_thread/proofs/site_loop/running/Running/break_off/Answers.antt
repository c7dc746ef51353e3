use Rattle.std.proofs.Common.{refl, ◌∙◌, arith}
use Rattle.dine_site_thread.proofs.one_site.Same.{same_but_ports, same_then}
use Rattle.dine_site_thread.proofs.site_loop.running.Running.break_off.Goals as goal

pub break_at-requires-clause-stopped : goal.break_at-requires-clause-stopped
break_at-requires-clause-stopped g c κs ls =
    let s = c.requires.stopped in
    (s.0, s.1, (s.2.0, s.2.1, c.loop-i.invariant.way s.0 s.1 s.2.0 s.2.1 s.2.2))

pub loop-i-init : goal.loop-i-init
loop-i-init g c = record {
  closed = λ j h. absurd (omega arith);
  places = refl;
  way = λ stray cause plan given stopped. stopped;
  same = same_but_ports c.args.self.now c.args.self.now.core c.args.self.now.ports c.args.self.now.journal c.args.self.now.log refl refl;
  checks = λ first are. are;
}

pub loop-i-preserved : goal.loop-i-preserved
loop-i-preserved g c = record {
  closed = c.break_at.ensures.closed;
  places = c.break_at.ensures.places ∙ c.loop-i.invariant.places;
  way = λ stray cause plan given stopped. c.break_at.ensures.way stray cause plan given (c.loop-i.invariant.way stray cause plan given stopped);
  same = same_then c.loop-i.invariant.same c.break_at.ensures.same;
  checks = λ first are. c.break_at.ensures.checks first (c.loop-i.invariant.checks first are);
}
