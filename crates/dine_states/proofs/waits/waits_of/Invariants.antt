use Rattle.std.proofs.Common.{◌≡◌, not, All, filter, map}
use Rattle.std.specs.List.{range_with_len}
use Rattle.dine_rules.specs.Steps.{is_ready}
use Rattle.dine_rules.specs.World.{WorldState, state_of}
use Rattle.dine_world.specs.Worlds.{IsWorldOf}
use Rattle.dine_states.specs.Waits.{IsWait}
use Rattle.dine_states.proofs.waits.waits_of.Given as goal

abbrev pub invariant-loop-place : goal.invariant-loop-place
invariant-loop-place l = (state : WorldState) → IsWorldOf l.plan state l.world
    → (map (λ wait. wait.place) l.waits.items ≡ filter (λ i. not (is_ready l.plan l.site (state_of state l.site) i)) (range_with_len 0 l.place)) × All (IsWait l.plan state l.site) l.waits.items
