-- Why an event is not enabled: what each reason says, and which of them is reported. docs/STATES.md has the same as a
-- table.
use Rattle.std.specs.Prelude.{ℕ, ◌==◌, ◌&&◌, not, nat_lt, Bool, true, Option, List, [], ◌∷◌, length}
use Rattle.std.specs.List.{find, list_all, range_with_len}
use Rattle.dine_token.specs.Log.{is_dirty}
use Rattle.dine_graph.specs.Plan.{SeenPlan, edges_of, resigns, site_count}
use Rattle.dine_rules.specs.declared.events.Event.{Event}
use Rattle.dine_rules.specs.declared.events.EventKind.{EventKind}
use Rattle.dine_rules.specs.declared.events.EventKind.TheVariants as event
use Rattle.dine_rules.specs.Holdings.{fork_at, hand_at, token_at}
use Rattle.dine_rules.specs.Letters.{has_close, has_done}
use Rattle.dine_rules.specs.Links.{queue_to}
use Rattle.dine_rules.specs.Local.{LocalState, has_no_job_left, is_eating, is_hungry, traffic_at}
use Rattle.dine_rules.specs.declared.events.Shape.{Shape}
use Rattle.dine_rules.specs.declared.events.Shape.TheVariants.{Takes, Puts, Alone}
use Rattle.dine_rules.specs.Steps.{is_ready, shape_of}
use Rattle.dine_rules.specs.World.{WorldState, state_of}
use Rattle.dine_states.specs.declared.why.Reason.{Reason}
use Rattle.dine_states.specs.declared.why.Reason.TheVariants as reason

-- the place of an event of this shape; no reason of an event without a place reads it
abbrev pub place_in : Shape → ℕ
place_in (Takes i) = i
place_in (Puts i) = i
place_in Alone = 0

-- the place of an event of this shape, if it has one, is less than n
abbrev pub is_within : ℕ → Shape → Bool
is_within n (Takes i) = nat_lt i n
is_within n (Puts i) = nat_lt i n
is_within n Alone = true

-- the plan has the site of the event, and the site has its place
abbrev pub is_event : SeenPlan → Event → Bool
is_event plan e = nat_lt e.site (site_count plan) && is_within (length (edges_of plan e.site)) (shape_of e.kind)

-- the site is hungry, and some place of it is not ready: the fork is not there, or it is dirty and was asked for
abbrev pub is_waiting : SeenPlan → ℕ → LocalState → Bool
is_waiting plan s state = is_hungry state.phase && not (list_all (is_ready plan s state) (range_with_len 0 (length state.traffic)))

-- What each reason says of the event of a site, at its place.
abbrev pub holds : SeenPlan → WorldState → Event → Reason → Bool
-- there is no such event
holds plan world e reason.NoEvent = not (is_event plan e)
-- no letter is in the link
holds plan world e reason.NoLetter = length (queue_to plan world e.site (place_in (shape_of e.kind))) == 0
-- the site has put Close
holds plan world e reason.Closed = has_close (traffic_at (state_of world e.site) (place_in (shape_of e.kind))).put
-- the site does not hold the fork
holds plan world e reason.NoFork = not (fork_at plan e.site (state_of world e.site) (place_in (shape_of e.kind)) == 1)
-- the site holds the fork
holds plan world e reason.HasFork = fork_at plan e.site (state_of world e.site) (place_in (shape_of e.kind)) == 1
-- the site does not hold the token, so it was not asked
holds plan world e reason.NotAsked = not (token_at plan e.site (state_of world e.site) (place_in (shape_of e.kind)) == 1)
-- the site does not hold the token, so it has asked
holds plan world e reason.Asked = not (token_at plan e.site (state_of world e.site) (place_in (shape_of e.kind)) == 1)
-- the fork in hand is clean
holds plan world e reason.Clean = not (is_dirty (hand_at e.site (state_of world e.site) (place_in (shape_of e.kind))))
-- the site has put Done
holds plan world e reason.Said = has_done (traffic_at (state_of world e.site) (place_in (shape_of e.kind))).put
-- the site has not put Done
holds plan world e reason.NotSaid = not (has_done (traffic_at (state_of world e.site) (place_in (shape_of e.kind))).put)
-- the site has not taken Done
holds plan world e reason.NotHeard = not (has_done (traffic_at (state_of world e.site) (place_in (shape_of e.kind))).taken)
-- the site has jobs left
holds plan world e reason.JobsLeft = not (has_no_job_left plan e.site (state_of world e.site))
-- the site has no job left
holds plan world e reason.NoJobs = has_no_job_left plan e.site (state_of world e.site)
-- the site is hungry
holds plan world e reason.Hungry = is_hungry (state_of world e.site).phase
-- the site is not hungry
holds plan world e reason.NotHungry = not (is_hungry (state_of world e.site).phase)
-- the site eats
holds plan world e reason.Eating = is_eating (state_of world e.site).phase
-- the site does not eat
holds plan world e reason.NotEating = not (is_eating (state_of world e.site).phase)
-- the site is hungry and waits at some place
holds plan world e reason.Waits = is_waiting plan e.site (state_of world e.site)
-- the plan says that the site does not resign
holds plan world e reason.NeverResigns = not (resigns plan e.site)
-- the site has quit
holds plan world e reason.HasQuit = (state_of world e.site).has_quit
-- the site has to quit, since its last meal failed
holds plan world e reason.MustQuit = (state_of world e.site).must_quit
-- the site does not have to quit
holds plan world e reason.NoFault = not (state_of world e.site).must_quit

-- the reasons of each kind of events, in the order in which they are looked for
abbrev pub reasons_of : EventKind → List Reason
reasons_of (event.Take i) = reason.NoEvent ∷ reason.NoLetter ∷ []
reasons_of (event.Give i) = reason.NoEvent ∷ reason.Closed ∷ reason.NoFork ∷ reason.NotAsked ∷ reason.Eating ∷ reason.Clean ∷ []
reasons_of event.End = reason.NoEvent ∷ reason.NotEating ∷ []
reasons_of event.Begin = reason.NoEvent ∷ reason.Waits ∷ reason.Eating ∷ reason.NotHungry ∷ []
reasons_of event.Quit = reason.NoEvent ∷ reason.NeverResigns ∷ reason.HasQuit ∷ reason.Eating ∷ reason.NoFault ∷ []
reasons_of event.Hungry = reason.NoEvent ∷ reason.Hungry ∷ reason.Eating ∷ reason.HasQuit ∷ reason.MustQuit ∷ reason.NoJobs ∷ []
reasons_of (event.Ask i) = reason.NoEvent ∷ reason.Closed ∷ reason.HasFork ∷ reason.Asked ∷ reason.NotHungry ∷ []
reasons_of (event.Done i) = reason.NoEvent ∷ reason.Said ∷ reason.JobsLeft ∷ reason.Eating ∷ []
reasons_of (event.Close i) = reason.NoEvent ∷ reason.Closed ∷ reason.NotSaid ∷ reason.NotHeard ∷ []

-- why an event is not enabled: the first of its reasons that holds; or none
abbrev pub why_not : SeenPlan → WorldState → Event → Option Reason
why_not plan world e = find (holds plan world e) (reasons_of e.kind)
