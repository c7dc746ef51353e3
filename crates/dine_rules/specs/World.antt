-- The world of all sites in one thread. A link may have any number of letters here. That it never has more than four is
-- the law `links_hold_few_letters`. There is no time, and any enabled event may be the next one.
use Rattle.std.specs.Prelude.{◌≡◌, ℕ, ◌<◌, ◌==◌, nat_lt, Bool, true, false, List, [], ◌∷◌, ◌++◌, map, filter, length, position, slice_get, slice_index_or, slice_set, Option, Some, None, is_some, unwrap_or, option_map, option_and_then, if◌then◌else◌}
use Rattle.std.specs.List.{flat_map, range_with_len}
use mathlib.Core.List.{IsPrefix}
use Rattle.dine_token.specs.declared.log_entry.Entry.{Entry}
use Rattle.dine_token.specs.Log.{meals_of}
use Rattle.dine_graph.specs.Plan.{SeenPlan, site_count, edges_of, job_count}
use Rattle.dine_rules.specs.declared.letters.Letter.{Letter}
use Rattle.dine_rules.specs.declared.events.Event.{Event}
use Rattle.dine_rules.specs.declared.events.EventKind.{EventKind}
use Rattle.dine_rules.specs.declared.events.EventKind.TheVariants as event
use Rattle.dine_rules.specs.declared.phase.Phase.TheVariants.{Thinking}
use Rattle.dine_rules.specs.Local.{LocalState, traffic_at, start_of, edge_at, neighbour_at, is_thinking, has_no_job_left, meal_fails}
use Rattle.dine_rules.specs.Steps.{Step, may, after, step_by}
use Rattle.dine_rules.specs.Streams.{IsClosedInOrder}

-- the state of all sites, one local state each
abbrev pub WorldState : Type 0
WorldState = List LocalState

-- a default, for the state of a site that is not there
abbrev pub no_state : LocalState
no_state = record { phase = Thinking; ate = 0; must_quit = false; has_quit = false; traffic = [] }

-- the state of a site
abbrev pub state_of : WorldState → ℕ → LocalState
state_of world s = slice_index_or world s no_state

-- all sites at the start: each thinks, and has put and taken nothing
abbrev pub start : SeenPlan → WorldState
start plan = map (start_of plan) (range_with_len 0 (site_count plan))

-- the place of an edge in the list of the site's edges
abbrev pub place_of : SeenPlan → ℕ → ℕ → ℕ
place_of plan s edge = unwrap_or (position (λ e. e == edge) (edges_of plan s)) 0

-- all letters that the other end of the edge put on the link to the site at place i
abbrev pub put_to : SeenPlan → WorldState → ℕ → ℕ → List Letter
put_to plan world s i = (traffic_at (state_of world (neighbour_at plan s i)) (place_of plan (neighbour_at plan s i) (edge_at plan s i))).put

-- the next letter in the link to the site at place i: the first that was put and not taken
abbrev pub next_letter : SeenPlan → WorldState → ℕ → ℕ → Option Letter
next_letter plan world s i = slice_get (put_to plan world s i) (length (traffic_at (state_of world s) i).taken)

-- the step for an event of the site: an End has the outcome of the job in the plan, and a Take takes the next letter in
-- the link
abbrev pub step_of : SeenPlan → WorldState → ℕ → EventKind → Option Step
step_of plan world s = step_by (meal_fails plan s (state_of world s)) (next_letter plan world s)

-- the state after a step, or none if the site may not do the step
abbrev pub local_after : SeenPlan → ℕ → LocalState → Step → Option LocalState
local_after plan s state step = if may plan s state step then Some (after plan s state step) else None

-- the state of the site after an event, or none if the event is not enabled
abbrev pub site_after : SeenPlan → WorldState → ℕ → EventKind → Option LocalState
site_after plan world s kind = option_and_then (local_after plan s (state_of world s)) (step_of plan world s kind)

-- the world after an event, which is one step of one site; or none if the event is not enabled
abbrev pub world_after : SeenPlan → WorldState → Event → Option WorldState
world_after plan world e = if nat_lt e.site (site_count plan) then option_map (slice_set world e.site) (site_after plan world e.site e.kind) else None

-- the event is enabled: its site may do it now
abbrev pub is_enabled : SeenPlan → WorldState → Event → Bool
is_enabled plan world e = is_some (world_after plan world e)

-- all events of a site that have no place, in the fixed order
abbrev pub placeless_kinds : List EventKind
placeless_kinds = event.End ∷ event.Begin ∷ event.Quit ∷ event.Hungry ∷ []

-- All events of a site with these places, in the fixed order: Take, Give, the events without a place, Ask, Done, Close.
-- Events of one kind are in the order of their places.
abbrev pub kinds_at : List ℕ → List EventKind
kinds_at places = map event.Take places ++ map event.Give places ++ placeless_kinds
    ++ map event.Ask places ++ map event.Done places ++ map event.Close places

-- all events of a site of the plan, in the fixed order
abbrev pub events_at : SeenPlan → ℕ → List Event
events_at plan s = map (λ kind. record { site = s; kind = kind }) (kinds_at (range_with_len 0 (length (edges_of plan s))))

-- all enabled events, in the fixed order: by site, and the events of one site in the order of `kinds_at`
abbrev pub enabled_events : SeenPlan → WorldState → List Event
enabled_events plan world = filter (is_enabled plan world) (flat_map (events_at plan) (range_with_len 0 (site_count plan)))

-- the world after a list of events, or none if one of them is not enabled when its turn comes
abbrev pub after_events : SeenPlan → WorldState → List Event → Option WorldState
after_events plan world [] = Some world
after_events plan world (e ∷ events) = option_and_then (λ next. after_events plan next events) (world_after plan world e)

-- the events lead from the start to the world, and each of them is enabled when its turn comes
abbrev pub Reaches : SeenPlan → List Event → WorldState → Type 0
Reaches plan events world = after_events plan (start plan) events ≡ Some world

-- what a site took at place i is a prefix of what the other end put
abbrev pub LinksAreOrdered : SeenPlan → WorldState → Type 0
LinksAreOrdered plan world = (s i : ℕ) → s < site_count plan → i < length (edges_of plan s)
    → IsPrefix (traffic_at (state_of world s) i).taken (put_to plan world s i)

-- The log has all meals that the site ate. If the site has not quit, these are all meals that are due to it.
pub record HasAllMeals (plan : SeenPlan) (world : WorldState) (s : ℕ) (log : List Entry) : Type 0 where
  pub ate : meals_of s log ≡ (state_of world s).ate
  pub due : (state_of world s).has_quit ≡ false → meals_of s log ≡ job_count plan s

-- The world is complete. Every site thinks and has no job left. What a site put on each link has Done before Close, and
-- ends in Close. What a site took from each link is all that was put there.
pub record IsComplete (plan : SeenPlan) (world : WorldState) : Type 0 where
  pub all_think : (s : ℕ) → s < site_count plan → is_thinking (state_of world s).phase ≡ true
  pub all_ate : (s : ℕ) → s < site_count plan → has_no_job_left plan s (state_of world s) ≡ true
  pub all_closed : (s i : ℕ) → s < site_count plan → i < length (edges_of plan s) → IsClosedInOrder (traffic_at (state_of world s) i).put
  pub all_taken : (s i : ℕ) → s < site_count plan → i < length (edges_of plan s) → (traffic_at (state_of world s) i).taken ≡ put_to plan world s i
