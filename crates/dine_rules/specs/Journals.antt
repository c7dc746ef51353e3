-- Journals: the events of each site, in its order; and lists that merge the events of all sites. They do not have
-- times.
use Rattle.std.specs.Prelude.{◌≡◌, ◌≢◌, ℕ, ◌+◌, ◌<◌, ◌==◌, Bool, true, false, List, [], ◌∷◌, ◌++◌, filter, length, map, slice_get, slice_index_or, Option, Some, None, option_and_then}
use mathlib.Core.List.{IsPrefix}
use Rattle.dine_graph.specs.Plan.{SeenPlan, IsPlan, edges_of, job_count, job_of, site_count}
use Rattle.dine_rules.specs.declared.letters.Letter.{Letter}
use Rattle.dine_rules.specs.declared.events.Event.{Event}
use Rattle.dine_rules.specs.declared.events.EventKind.{EventKind}
use Rattle.dine_rules.specs.declared.events.EventKind.TheVariants as event
use Rattle.dine_rules.specs.Local.{LocalState, start_of, traffic_at}
use Rattle.dine_rules.specs.Steps.{IsPlaceWithin, shape_of, step_by}
use Rattle.dine_rules.specs.World.{WorldState, IsComplete, LinksAreOrdered, Reaches, is_enabled, local_after, state_of, world_after}

-- ---- the journal of one site

-- The next letter at each place: the first one that was not taken. `letters` gives for each place the letters that are
-- taken there, in order.
abbrev pub next_of_these : (ℕ → List Letter) → LocalState → ℕ → Option Letter
next_of_these letters state i = slice_get (letters i) (length (traffic_at state i).taken)

-- The outcome of a meal, by the events of the journal after its End. The meal failed if the site quits before another
-- meal ends. If neither is among these events, the outcome is `last`.
abbrev pub fails_before : Bool → List EventKind → Bool
fails_before last [] = last
fails_before last (event.Quit ∷ kinds) = true
fails_before last (event.End ∷ kinds) = false
fails_before last (kind ∷ kinds) = fails_before last kinds

-- the outcomes of the meals that ended, in order
abbrev pub outcomes_in : Bool → List EventKind → List Bool
outcomes_in last [] = []
outcomes_in last (event.End ∷ kinds) = fails_before last kinds ∷ outcomes_in last kinds
outcomes_in last (kind ∷ kinds) = outcomes_in last kinds

-- The state of the site after an event, or none if the site may not do it. An End has this outcome, and a Take takes
-- the next of these letters.
abbrev pub state_after : SeenPlan → ℕ → (ℕ → List Letter) → Bool → LocalState → EventKind → Option LocalState
state_after plan s letters failed state kind = option_and_then (local_after plan s state) (step_by failed (next_of_these letters state) kind)

-- the state of the site after its events, with the outcomes that they show; or none if one of them is not allowed when
-- its turn comes
abbrev pub state_after_all : SeenPlan → ℕ → (ℕ → List Letter) → Bool → LocalState → List EventKind → Option LocalState
state_after_all plan s letters last state [] = Some state
state_after_all plan s letters last state (kind ∷ kinds) = option_and_then (λ next. state_after_all plan s letters last next kinds) (state_after plan s letters (fails_before last kinds) state kind)

-- The journal of a site in this state. Do its events from the start, with the letters that the site took: that gives
-- the state, and so all that the site put, its phase, and its number of meals. A meal failed if it is the last one
-- before a Quit, or if it is the last one of a site that still has to quit. No other meal failed.
abbrev pub IsJournal : SeenPlan → ℕ → List EventKind → LocalState → Type 0
IsJournal plan s journal state = state_after_all plan s (λ i. (traffic_at state i).taken) state.must_quit (start_of plan s) journal ≡ Some state

-- ---- one list of the events of all sites

-- the events of one site in a list, in their order
abbrev pub part_of : ℕ → List Event → List EventKind
part_of s events = map (λ e. e.kind) (filter (λ e. e.site == s) events)

-- the journal of a site; a site that is not there has no events
abbrev pub journal_of : List (List EventKind) → ℕ → List EventKind
journal_of journals s = slice_index_or journals s []

-- An order of the journals: a list that has the events of each journal, in the order of that journal, and no others.
abbrev pub IsOrderOf : List (List EventKind) → List Event → Type 0
IsOrderOf journals events = (s : ℕ) → part_of s events ≡ journal_of journals s

-- the events of each site in the list are the first ones of its journal
abbrev pub IsFrontOf : List (List EventKind) → List Event → Type 0
IsFrontOf journals events = (s : ℕ) → IsPrefix (part_of s events) (journal_of journals s)

-- An order of the journals that the world accepts: from the start on, each event is enabled when its turn comes. At its
-- end the world is complete.
pub record IsWholeOrder (plan : SeenPlan) (journals : List (List EventKind)) (events : List Event) : Type 0 where
  pub world : WorldState
  pub holds_journals : IsOrderOf journals events
  pub accepted : Reaches plan events world
  pub complete : IsComplete plan world

-- What one more event does to a list of events that the world accepts. If it is enabled at the end of the list, the
-- world accepts the longer list. It is an event of a site of the plan, and its place, if it has one, is a place of that
-- site. In the longer list this site has one event more, and each other site has the same events as before.
pub record OrdersGrow : Type 0 where
  pub accepted : (plan : SeenPlan) (events : List Event) (world new : WorldState) (e : Event) → Reaches plan events world → world_after plan world e ≡ Some new → Reaches plan (events ++ e ∷ []) new
  pub is_site : (plan : SeenPlan) (world new : WorldState) (e : Event) → world_after plan world e ≡ Some new → e.site < site_count plan
  pub is_place : (plan : SeenPlan) (events : List Event) (world new : WorldState) (e : Event) → IsPlan plan → Reaches plan events world → world_after plan world e ≡ Some new
      → IsPlaceWithin (length (edges_of plan e.site)) (shape_of e.kind)
  pub own : (events : List Event) (e : Event) → part_of e.site (events ++ e ∷ []) ≡ part_of e.site events ++ e.kind ∷ []
  pub others : (events : List Event) (e : Event) (s : ℕ) → e.site ≢ s → part_of s (events ++ e ∷ []) ≡ part_of s events

-- ---- the search for an order

-- the first event of the journal of the site that is not placed yet
abbrev pub next_of : List (List EventKind) → List Event → ℕ → Option EventKind
next_of journals placed s = slice_get (journal_of journals s) (length (part_of s placed))

-- there is an event, and it is enabled in the world
abbrev pub can_follow : SeenPlan → WorldState → ℕ → Option EventKind → Bool
can_follow plan world s None = false
can_follow plan world s (Some kind) = is_enabled plan world (record { site = s; kind = kind })

-- the site is ready: the next event of its journal is enabled
abbrev pub is_ready : SeenPlan → List (List EventKind) → List Event → WorldState → ℕ → Bool
is_ready plan journals placed world s = can_follow plan world s (next_of journals placed s)

-- Each event is one of the lowest site that was ready: no lower site was ready when it was placed.
abbrev pub IsLowestFirst : SeenPlan → List (List EventKind) → List Event → Type 0
IsLowestFirst plan journals events = (before rest : List Event) (e : Event) (world : WorldState) → events ≡ before ++ e ∷ rest → Reaches plan before world
    → (s : ℕ) → s < e.site → is_ready plan journals before world s ≡ false

-- Events from the front of the journals were placed, and the world accepts them. No site is ready any more.
pub record IsPlacedToEnd (plan : SeenPlan) (journals : List (List EventKind)) (placed : List Event) (world : WorldState) : Type 0 where
  pub front : IsFrontOf journals placed
  pub accepted : Reaches plan placed world
  pub none_ready : (s : ℕ) → is_ready plan journals placed world s ≡ false

-- ---- the states that journals lead to

-- These are the states to which the journals lead. The journal of each site led it to its state, and the letters that
-- it took are the first ones that the other end put.
pub record AreStatesAfter (plan : SeenPlan) (journals : List (List EventKind)) (states : WorldState) : Type 0 where
  pub sites : length states ≡ site_count plan
  pub each : (s : ℕ) → s < site_count plan → IsJournal plan s (journal_of journals s) (state_of states s)
  pub links : LinksAreOrdered plan states

-- The jobs of the plan whose meals ended fail as the journals show.
abbrev pub FailAsShown : SeenPlan → List (List EventKind) → WorldState → Type 0
FailAsShown plan journals states = (s k : ℕ) (failed : Bool) → s < site_count plan → k < job_count plan s
    → slice_get (outcomes_in (state_of states s).must_quit (journal_of journals s)) k ≡ Some failed → (job_of plan s (k + 1)).fails ≡ failed
