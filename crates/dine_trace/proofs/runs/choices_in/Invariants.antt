use Rattle.std.proofs.Common.{drop}
use Rattle.dine_rules.specs.World.{Reaches, WorldState}
use Rattle.dine_trace.proofs.Choices.{GoesThrough}
use Rattle.dine_trace.proofs.runs.choices_in.Given as goal

-- the events so far were done, each by its choice
abbrev pub invariant-loop-event : goal.invariant-loop-event
invariant-loop-event l = record {
  goes : (end : WorldState) → Reaches l.plan l.fn.events end → GoesThrough l.plan l.fn.events (drop l.event-index l.fn.events) end l.choices.items l.world;
}
