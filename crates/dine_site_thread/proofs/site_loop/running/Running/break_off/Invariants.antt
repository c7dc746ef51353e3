use Rattle.std.proofs.Common.{◌≡◌, length}
use Rattle.dine_site_thread.specs.private.Running.{ChecksOn, ClosedBelow, StaysStopped, SameMeals}
use Rattle.dine_site_thread.proofs.site_loop.running.Running.break_off.Given as goal

abbrev pub invariant-loop-i : goal.invariant-loop-i
invariant-loop-i g l = record {
  closed : ClosedBelow l.i l.self.core;
  places : length l.self.core.places ≡ length l.initial.self.core.places;
  way : StaysStopped g.L.Lane l.initial.self l.self;
  same : SameMeals l.initial.self l.self;
  checks : ChecksOn l.initial.self l.self;
}
