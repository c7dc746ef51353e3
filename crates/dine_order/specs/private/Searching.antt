-- The search for one order of the journals.
use Rattle.std.specs.Prelude.{◌≡◌, ℕ, zero, suc, ◌<◌, ◌≤◌, Bool, true, false, List, length, slice_get, slice_index_or, slice_set, Option, Some, None, option_and_then}
use Rattle.dine_graph.specs.Plan.{SeenPlan, site_count}
use Rattle.dine_rules.specs.declared.events.Event.{Event}
use Rattle.dine_rules.specs.declared.events.EventKind.{EventKind}
use Rattle.dine_rules.specs.Local.{neighbour_at}
use Rattle.dine_rules.specs.declared.events.Shape.{Shape}
use Rattle.dine_rules.specs.declared.events.Shape.TheVariants.{Takes, Puts, Alone}
use Rattle.dine_rules.specs.Steps.{shape_of}
use Rattle.dine_rules.specs.World.{WorldState, Reaches, world_after}
use Rattle.dine_rules.specs.Journals.{IsFrontOf, IsLowestFirst, IsPlacedToEnd, is_ready, journal_of, next_of, part_of}
use Rattle.dine_world.specs.Worlds.{IsWorldOf, SeenWorld}

-- the outcomes after the last of this number of meals failed: its job is marked, if there was such a meal and the site
-- has a job of its number
abbrev pub outcomes_after : ℕ → List Bool → List Bool
outcomes_after zero fails = fails
outcomes_after (suc before) fails = slice_set fails before true

-- the number of events placed of each site is its count
abbrev pub AreCounts : SeenPlan → List Event → List ℕ → Type 0
AreCounts plan placed counts = (s : ℕ) → s < site_count plan → slice_index_or counts s 0 ≡ length (part_of s placed)

-- A state of the search: these events are placed, and no site outside the set is ready.
pub record IsSearching (plan : SeenPlan) (journals : List (List EventKind)) (placed : List Event) (counts : List ℕ) (untried : List Bool) (seen : SeenWorld) : Type 0 where
  pub state : WorldState
  pub stands : IsWorldOf plan state seen
  pub accepted : Reaches plan placed state
  pub front : IsFrontOf journals placed
  pub lowest_first : IsLowestFirst plan journals placed
  pub journals_count : length journals ≡ site_count plan
  pub counts_count : length counts ≡ site_count plan
  pub counted : AreCounts plan placed counts
  pub size : length untried ≡ 64
  pub tried : (s : ℕ) → slice_index_or untried s false ≡ false → is_ready plan journals placed state s ≡ false

-- The end of the search: no site is ready any more.
pub record IsSearched (plan : SeenPlan) (journals : List (List EventKind)) (placed : List Event) (counts : List ℕ) (seen : SeenWorld) : Type 0 where
  pub state : WorldState
  pub stands : IsWorldOf plan state seen
  pub to_end : IsPlacedToEnd plan journals placed state
  pub lowest_first : IsLowestFirst plan journals placed
  pub counts_count : length counts ≡ site_count plan
  pub counted : AreCounts plan placed counts

-- The event is the next one of the lowest ready site, and the world has done it. Before it, no site outside the set was
-- ready.
pub record IsFound (plan : SeenPlan) (journals : List (List EventKind)) (placed : List Event) (counts : List ℕ) (untried : List Bool) (e : Event) (seen : SeenWorld) : Type 0 where
  pub state : WorldState
  pub accepted : Reaches plan placed state
  pub front : IsFrontOf journals placed
  pub lowest_first : IsLowestFirst plan journals placed
  pub journals_count : length journals ≡ site_count plan
  pub counts_count : length counts ≡ site_count plan
  pub counted : AreCounts plan placed counts
  pub size : length untried ≡ 64
  pub tried : (s : ℕ) → slice_index_or untried s false ≡ false → is_ready plan journals placed state s ≡ false
  pub is_next : next_of journals placed e.site ≡ Some e.kind
  pub lower : (s : ℕ) → s < e.site → is_ready plan journals placed state s ≡ false
  pub own_is_in : slice_index_or untried e.site false ≡ false → ⊥
  pub next : WorldState
  pub happens : world_after plan state e ≡ Some next
  pub stands : IsWorldOf plan next seen

-- what a search for the next event leads to: an event is found, or no site is ready
abbrev pub LeadsTo : SeenPlan → List (List EventKind) → List Event → List ℕ → Option Event → List Bool → SeenWorld → Type 0
LeadsTo plan journals placed counts None untried seen = IsSearched plan journals placed counts seen
LeadsTo plan journals placed counts (Some e) untried seen = IsFound plan journals placed counts untried e seen

-- the search for the next event leads there from each state of the search
abbrev pub FindsNext : List (List EventKind) → List ℕ → List Bool → SeenWorld → Option Event → List Bool → SeenWorld → Type 0
FindsNext journals counts untried seen found still_untried new = (plan : SeenPlan) (placed : List Event) → IsSearching plan journals placed counts untried seen
    → LeadsTo plan journals placed counts found still_untried new

-- the next event of the site's journal, given the number of events of each site that were placed
abbrev pub kind_at : List (List EventKind) → List ℕ → ℕ → Option EventKind
kind_at journals counts s = option_and_then (λ (journal : List EventKind). option_and_then (λ (count : ℕ). slice_get journal count) (slice_get counts s)) (slice_get journals s)

-- the site that gets a letter by an event of this shape
abbrev pub receiver_by : SeenPlan → ℕ → Shape → Option ℕ
receiver_by plan s (Takes i) = None
receiver_by plan s (Puts i) = Some (neighbour_at plan s i)
receiver_by plan s Alone = None

-- the site that gets a letter by an event
abbrev pub receiver_of : SeenPlan → Event → Option ℕ
receiver_of plan e = receiver_by plan e.site (shape_of e.kind)

-- the lowest site with events left, or None if no site has any left
abbrev pub FirstLeft : ℕ → List (List EventKind) → List ℕ → Option ℕ → Type 0
FirstLeft n journals counts None = (s : ℕ) → s < n → length (journal_of journals s) ≤ slice_index_or counts s 0
FirstLeft n journals counts (Some site) = (site < n) × (slice_index_or counts site 0 < length (journal_of journals site))
    × ((s : ℕ) → s < site → length (journal_of journals s) ≤ slice_index_or counts s 0)
