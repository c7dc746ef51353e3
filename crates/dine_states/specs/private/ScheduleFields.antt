-- How a schedule is kept.
use Rattle.dine_states.specs.declared.schedule.Schedule.TheInside.{Inside}
use Rattle.dine_states.specs.Schedules.{SeenSchedule, lists_of}

-- the schedule that the fields represent
abbrev pub seen_schedule : Inside → SeenSchedule
seen_schedule own = record { world = own.world; done = own.past.done.items; last = own.past.last; failed = lists_of own.past.failed.items }
