-- How the first reason of an event is found: the event is at an end, and its reasons are tried there.
use Rattle.std.specs.Prelude.{◌≡◌, ℕ, ◌<◌, ◌==◌, ◌&&◌, not, Bool, false, true, Option, Some, None}
use Rattle.std.specs.List.{list_any}
use Rattle.dine_token.specs.Log.{is_dirty}
use Rattle.dine_graph.specs.Plan.{SeenPlan, site_count}
use Rattle.dine_rules.specs.declared.events.Event.{Event}
use Rattle.dine_rules.specs.declared.events.EventKind.TheVariants as event
use Rattle.dine_rules.specs.Holdings.{fork_at, hand_at}
use Rattle.dine_rules.specs.declared.events.Shape.{Shape}
use Rattle.dine_rules.specs.declared.events.Shape.TheVariants.{Takes, Puts, Alone}
use Rattle.dine_rules.specs.Steps.{shape_of}
use Rattle.dine_rules.specs.World.{WorldState, state_of}
use Rattle.dine_states.specs.declared.ends.End.{End}
use Rattle.dine_states.specs.declared.why.Reason.{Reason}
use Rattle.dine_states.specs.declared.why.Reason.TheVariants as reason
use Rattle.dine_states.specs.Ends.{IsEnd}
use Rattle.dine_states.specs.Reasons.{holds, is_event, place_in, reasons_of}

-- the place of an event of this shape, or none
abbrev pub event_place : Shape → Option ℕ
event_place (Takes i) = Some i
event_place (Puts i) = Some i
event_place Alone = None

-- the reason is about a place of the site
abbrev pub is_of_place : Reason → Bool
is_of_place reason.NoLetter = true
is_of_place reason.Closed = true
is_of_place reason.NoFork = true
is_of_place reason.HasFork = true
is_of_place reason.NotAsked = true
is_of_place reason.Asked = true
is_of_place reason.Clean = true
is_of_place reason.Said = true
is_of_place reason.NotSaid = true
is_of_place reason.NotHeard = true
is_of_place _ = false

-- The plan has the event, and it is at this end. If no reason of the event is about a place, then only the site counts.
pub record IsEndFor (plan : SeenPlan) (e : Event) (end : End) : Type 0 where
  pub there : is_event plan e ≡ true
  pub within : e.site < site_count plan
  pub site : end.site ≡ e.site
  pub place : end.place ≡ place_in (shape_of e.kind)
  pub is_end : list_any is_of_place (reasons_of e.kind) ≡ true → IsEnd plan end

-- What each reason says of site s, at its place i: the same as of a Take there, or of any other event. Two say less: no
-- event is missing, and a fork that the site does not hold counts as clean. The first reason that holds stays the same.
abbrev pub holds_at : SeenPlan → WorldState → ℕ → ℕ → Reason → Bool
holds_at plan world s i reason.NoEvent = false
holds_at plan world s i reason.Clean = not (fork_at plan s (state_of world s) i == 1 && is_dirty (hand_at s (state_of world s) i))
holds_at plan world s i other = holds plan world (record { site = s; kind = event.Take i }) other
