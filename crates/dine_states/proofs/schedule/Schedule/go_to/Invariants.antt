use Rattle.dine_states.specs.Schedules.{IsScheduleOf}
use Rattle.dine_states.proofs.schedule.Schedule.go_to.Given as goal

abbrev pub invariant-loop-taken : goal.invariant-loop-taken
invariant-loop-taken l = IsScheduleOf l.plan l.fn.self → IsScheduleOf l.plan l.self
