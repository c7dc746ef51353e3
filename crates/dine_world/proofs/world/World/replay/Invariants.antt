use Rattle.std.proofs.Common.{◌≤◌, drop}
use Rattle.dine_graph.specs.Plan.{SeenPlan}
use Rattle.dine_rules.specs.World.{WorldState}
use Rattle.dine_world.specs.Worlds.{IsWorldOf}
use Rattle.dine_world.proofs.all_sites.WorldSchedules.{IsReplaying}
use Rattle.dine_world.proofs.world.World.replay.Given as goal

-- A replay that is under way from each state that the world stood for, and there is such a state.
abbrev pub invariant-loop-choice : goal.invariant-loop-choice
invariant-loop-choice l = record {
  few : l.events ≤ l.choice-index;
  plan : SeenPlan;
  world : WorldState;
  stood : IsWorldOf plan world l.fn.self;
  under_way : (plan : SeenPlan) (world : WorldState) → IsWorldOf plan world l.fn.self → IsReplaying plan world l.fn.choices (drop l.choice-index l.fn.choices) l.events l.self;
}
