use Rattle.std.proofs.Common.{Ok}
use Rattle.dine_site_thread.specs.private.Running.{ChecksOn, IsRunning, IsTimedRun, Proceeds, IsWorking, WorksOn}
use Rattle.dine_site_thread.proofs.site_loop.running.Running.work.Given as goal

abbrev pub invariant-loop : goal.invariant-loop
invariant-loop g l = record {
  proceeds : Proceeds g.L.Lane g.D.Diner IsRunning l.initial.self l.self;
  timed : IsTimedRun g.L.Lane l.initial.self → IsTimedRun g.L.Lane l.self;
  checks : ChecksOn l.initial.self l.self;
  works : WorksOn g.L.Lane IsWorking (Ok tt) l.initial.self l.self;
}
