-- How the record of calls is kept.
use Rattle.std.specs.Prelude.{◌≤◌, ◌+◌, vec_len, vec_capacity}
use Rattle.dine_site_thread.specs.declared.call_log.CallLog.TheInside.{Inside}
use Rattle.dine_site_thread.specs.CallLogs.{SeenCallLog}

-- the record of calls that the fields of a `CallLog` represent
abbrev pub seen_log : Inside → SeenCallLog
seen_log log = record { calls = log.calls.items; room = log.room }

-- the list has capacity for the calls to come
abbrev pub HasRoom : Inside → Type 0
HasRoom log = vec_len log.calls + log.room ≤ vec_capacity log.calls
