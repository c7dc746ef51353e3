-- The record of calls that a diner keeps, as contracts see it.
use Rattle.std.specs.Prelude.{ℕ, List, []}
use Rattle.dine_site_thread.specs.declared.diner.Call.{Call}

-- a record of calls: the calls so far, in order, and for how many more calls it has capacity
pub record SeenCallLog : Type 0 where
  pub calls : List Call
  pub room : ℕ

-- a log without calls, with capacity for this number of calls
abbrev pub no_calls : ℕ → SeenCallLog
no_calls room = record { calls = []; room = room }
