use Rattle.std.proofs.Common.{◌≡◌, map}
use Rattle.std.specs.List.{range_with_len}
use Rattle.dine_rules.specs.World.{WorldState}
use Rattle.dine_world.specs.Worlds.{IsWorldOf}
use Rattle.dine_states.specs.Orders.{ends_by_precedence}
use Rattle.dine_states.proofs.precedence.ends_by_precedence.Given as goal

abbrev pub invariant-loop-edge : goal.invariant-loop-edge
invariant-loop-edge l = (state : WorldState) → IsWorldOf l.plan state l.world → l.ends.items ≡ map (ends_by_precedence l.plan state) (range_with_len 0 l.edge)
