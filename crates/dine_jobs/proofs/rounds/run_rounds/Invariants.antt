use Rattle.std.specs.Prelude.{◌-◌}
use Rattle.dine_jobs.specs.Rounds.{HasRounds}
use Rattle.dine_jobs.proofs.rounds.run_rounds.Given as goal

-- if the rounds that are left end in `done`, all rounds do
abbrev pub invariant-loop-round : goal.invariant-loop-round
invariant-loop-round g l =
    goal.F-IsAlwaysCallable g l.step
    × ((done : _) → HasRounds {F = g.row.J-Fault.Denot} (goal.F-step g) g.J.Job.after l.plan (l.rounds - l.round) l.round l.step l.values l.jobs done
    → HasRounds {F = g.row.J-Fault.Denot} (goal.F-step g) g.J.Job.after l.plan (l.fn.rounds - 1) 1 l.fn.step l.fn.values l.fn.jobs done)
