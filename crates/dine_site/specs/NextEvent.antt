-- The events that a site does without a letter.
use Rattle.std.specs.Prelude.{ℕ, ◌&&◌, nat_lt, Bool, false, true, List, ◌++◌, length, map, find, Option, None}
use Rattle.std.specs.List.{range_with_len}
use Rattle.std.specs.Option.{option_map_or}
use Rattle.dine_graph.specs.Plan.{SeenPlan}
use Rattle.dine_rules.specs.declared.events.EventKind.{EventKind}
use Rattle.dine_rules.specs.declared.events.EventKind.TheVariants as event
use Rattle.dine_rules.specs.Local.{LocalState, is_eating}
use Rattle.dine_rules.specs.declared.events.Shape.{Shape}
use Rattle.dine_rules.specs.declared.events.Shape.TheVariants.{Takes, Puts, Alone}
use Rattle.dine_rules.specs.Steps.{may, shape_of, step_by}
use Rattle.dine_rules.specs.World.{placeless_kinds}
use Rattle.dine_site.specs.Core.{SeenCore}
use Rattle.dine_site.specs.Places.{can_give, can_ask, can_hunger, can_quit, can_begin, can_say_done, can_close}
use Rattle.dine_site.specs.Standing.{all_places}

-- all events except Take of a site with these places, in the fixed order
abbrev pub own_kinds : List ℕ → List EventKind
own_kinds places = map event.Give places ++ placeless_kinds
    ++ map event.Ask places ++ map event.Done places ++ map event.Close places

-- the rules allow the event, even if no letter has arrived; an End is allowed whether its job failed or not
abbrev pub may_by_itself : SeenPlan → ℕ → LocalState → EventKind → Bool
may_by_itself plan s state kind = option_map_or (may plan s state) (step_by false (λ i. None) kind) false

-- the first event that a site may do by itself
abbrev pub next_event : SeenPlan → ℕ → LocalState → Option EventKind
next_event plan s state = find (may_by_itself plan s state) (own_kinds (all_places state))

-- an event of this shape has no place, or one of the places of the core
abbrev pub has_place : SeenCore → Shape → Bool
has_place core (Takes i) = nat_lt i (length core.places)
has_place core (Puts i) = nat_lt i (length core.places)
has_place core Alone = true

-- the core passes the test for the event at its place; a Take has no such test, since it needs a letter
abbrev pub passes : SeenCore → EventKind → Bool
passes core (event.Take i) = false
passes core (event.Give i) = can_give core i
passes core event.End = is_eating core.phase
passes core event.Begin = can_begin core
passes core event.Quit = can_quit core
passes core event.Hungry = can_hunger core
passes core (event.Ask i) = can_ask core i
passes core (event.Done i) = can_say_done core i
passes core (event.Close i) = can_close core i

-- the core can do the event without a letter: its place is there, and the core passes the test for it
abbrev pub can_by_itself : SeenCore → EventKind → Bool
can_by_itself core (event.Take i) = false
can_by_itself core kind = has_place core (shape_of kind) && passes core kind

-- the first event, in the fixed order, that the core can do without a letter
abbrev pub next_of : SeenCore → Option EventKind
next_of core = find (can_by_itself core) (own_kinds (range_with_len 0 (length core.places)))
