use Rattle.std.proofs.Common.{◌≡◌, ◌<◌, ℕ, Some, slice_get}
use Rattle.dine_rules.specs.World.{WorldState, enabled_events}
use Rattle.dine_world.specs.Worlds.{IsWorldOf}
use Rattle.dine_trace.proofs.runs.number_of.Given as goal

-- none of the numbers so far is that of the event
abbrev pub invariant-loop-number : goal.invariant-loop-number
invariant-loop-number l = record {
  passed : (state : WorldState) (n : ℕ) → IsWorldOf l.fn.plan state l.fn.world → n < l.number → slice_get (enabled_events l.fn.plan state) n ≡ Some l.fn.event → ⊥;
}
