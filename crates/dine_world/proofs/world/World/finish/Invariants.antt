use Rattle.std.proofs.Common.{◌≡◌, ◌≤◌}
use Rattle.dine_graph.specs.Plan.{SeenPlan}
use Rattle.dine_rules.specs.Bound.{bound_of}
use Rattle.dine_rules.specs.World.{WorldState}
use Rattle.dine_world.specs.Worlds.{IsWorldOf}
use Rattle.dine_world.proofs.all_sites.WorldSchedules.{IsUnderWay}
use Rattle.dine_world.proofs.world.World.finish.Given as goal

-- A run that is under way from each state that the world stood for, and there is such a state.
abbrev pub invariant-loop-event : goal.invariant-loop-event
invariant-loop-event l = record {
  within : l.left ≤ l.bound;
  bound : (plan : SeenPlan) (world : WorldState) → IsWorldOf plan world l.fn.self → l.bound ≡ bound_of plan;
  plan : SeenPlan;
  world : WorldState;
  stood : IsWorldOf plan world l.fn.self;
  under_way : (plan : SeenPlan) (world : WorldState) → IsWorldOf plan world l.fn.self → IsUnderWay plan world l.left l.self;
}

-- each event leaves one fewer
abbrev pub decreases-loop-event : goal.decreases-loop-event
decreases-loop-event l = l.left
