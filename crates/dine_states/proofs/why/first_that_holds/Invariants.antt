use Rattle.std.proofs.Common.{◌≡◌, drop, find}
use Rattle.dine_rules.specs.World.{WorldState}
use Rattle.dine_world.specs.Worlds.{IsWorldOf}
use Rattle.dine_states.specs.private.ReasonsAtEnds.{holds_at}
use Rattle.dine_states.proofs.why.first_that_holds.Given as goal

-- none of the reasons so far holds
abbrev pub invariant-loop-reason : goal.invariant-loop-reason
invariant-loop-reason l = (state : WorldState) → IsWorldOf l.plan state l.world
    → find (holds_at l.plan state l.end.site l.end.place) l.reasons ≡ find (holds_at l.plan state l.end.site l.end.place) (drop l.reason-index l.reasons)
