-- The world as contracts see it, and the states with whole lists of letters that it represents. A World keeps no letter
-- that was taken. So many states have the same World, and a clause by `ForEachWorld` holds for each of them. The
-- invariant of the type says that there is one.
use Rattle.std.specs.Prelude.{◌≡◌, ℕ, ◌*◌, ◌<◌, Bool, false, List, length, map, slice_get, slice_index_or, Vec, Option, Some, None}
use Rattle.std.specs.declared.alloc.Global.{Global}
use Rattle.std.specs.List.{range_with_len}
use Rattle.dine_token.specs.Fork.{SeenFork}
use Rattle.dine_graph.specs.Plan.{SeenPlan, IsPlan, site_count, edge_count, edges_of, job_count, lo_of, hi_of}
use Rattle.dine_rules.specs.declared.letters.Letter.{Letter}
use Rattle.dine_rules.specs.declared.events.Event.{Event}
use Rattle.dine_rules.specs.declared.events.EventKind.{EventKind}
use Rattle.dine_world.specs.declared.world.sites.WorldSite.{WorldSite}
use Rattle.dine_world.specs.declared.world.EdgeEnds.{EdgeEnds}
use Rattle.dine_rules.specs.Local.{edge_at}
use Rattle.dine_rules.specs.Steps.{fork_by}
use Rattle.dine_rules.specs.World.{WorldState, Reaches, state_of, place_of, world_after}
use Rattle.dine_rules.specs.Links.{queue_to}
use Rattle.dine_site.specs.LinkNumbers.{link_number_to}
use Rattle.dine_world.specs.WorldSites.{IsSiteOf, can_do, letters_in}
use Rattle.dine_rules.specs.Precedence.{fork_log}
use Rattle.dine_rules.specs.Bound.{bound_of}
use Rattle.dine_rules.specs.Schedules.{Counted}

-- a World: its sites, the letters in each link, the ends of each edge with the place of the edge at each, and the bound
-- of its events
pub record SeenWorld : Type 0 where
  pub sites : List WorldSite
  pub links : List (List Letter)
  pub edges : List EdgeEnds
  pub bound : ℕ

-- the number of the link to a site at place i
abbrev pub number_to : SeenPlan → ℕ → ℕ → ℕ
number_to plan s i = link_number_to s (edge_at plan s i) (lo_of plan (edge_at plan s i))

-- each site represents its state
pub record AreSitesOf (plan : SeenPlan) (world : WorldState) (sites : List WorldSite) : Type 0 where
  pub count : length sites ≡ site_count plan
  pub site : (s : ℕ) (past : WorldSite) → s < site_count plan → (slice_index_or sites s past).core.site ≡ s
  pub stands : (s : ℕ) (past : WorldSite) → s < site_count plan → IsSiteOf plan (state_of world s) (slice_index_or sites s past)

-- in each link are the letters that were put and not taken
pub record AreLinksOf (plan : SeenPlan) (world : WorldState) (links : List (List Letter)) : Type 0 where
  pub count : length links ≡ 2 * edge_count plan
  pub letters : (s i : ℕ) → s < site_count plan → i < length (edges_of plan s) → letters_in links (number_to plan s i) ≡ queue_to plan world s i

-- the ends of an edge, and its place at each
abbrev pub ends_seen : SeenPlan → ℕ → EdgeEnds
ends_seen plan e = record { lower = lo_of plan e; lower_place = place_of plan (lo_of plan e) e; higher = hi_of plan e; higher_place = place_of plan (hi_of plan e) e }

-- the state is one that some list of events reaches from the start
pub record IsReached (plan : SeenPlan) (world : WorldState) : Type 0 where
  pub is_plan : IsPlan plan
  pub events : List Event
  pub reaches : Reaches plan events world

-- The world represents a state of the plan's world that some list of events reaches from the start.
pub record IsWorldOf (plan : SeenPlan) (world : WorldState) (seen : SeenWorld) : Type 0 where
  pub reached : IsReached plan world
  pub sites : AreSitesOf plan world seen.sites
  pub links : AreLinksOf plan world seen.links
  pub edges : seen.edges ≡ map (ends_seen plan) (range_with_len 0 (edge_count plan))
  pub bound : seen.bound ≡ bound_of plan

-- the lists as values
abbrev pub lists_of : List (Vec Bool Global) → List (List Bool)
lists_of fails = map (λ (own : Vec Bool Global). own.items) fails

-- There is one list for each site of the plan, with one value for each of its jobs: whether its meal fails.
pub record AreOutcomesFor (plan : SeenPlan) (fails : List (List Bool)) : Type 0 where
  pub sites : length fails ≡ site_count plan
  pub jobs : (s : ℕ) (past : List Bool) → s < site_count plan → length (slice_index_or fails s past) ≡ job_count plan s

-- the world represents a state that events reach, of some plan
abbrev pub IsOpened : SeenWorld → Type 0
IsOpened seen = (plan : SeenPlan) × (state : WorldState) × IsWorldOf plan state seen

-- P holds of each plan and each state that the world represents
abbrev pub ForEachWorld : SeenWorld → (SeenPlan → WorldState → Type 0) → Type 0
ForEachWorld seen P = (plan : SeenPlan) (world : WorldState) → IsWorldOf plan world seen → P plan world

-- there is a site, and it may do that
abbrev pub can_at : List (List Letter) → EventKind → Option WorldSite → Bool
can_at links kind None = false
can_at links kind (Some world_site) = can_do links world_site.core kind

-- the event can happen
abbrev pub can_happen : SeenWorld → Event → Bool
can_happen seen e = can_at seen.links e.kind (slice_get seen.sites e.site)

-- The event is enabled in the state, and the new World represents the state after it.
pub record WorldStep (plan : SeenPlan) (world : WorldState) (e : Event) (new : SeenWorld) : Type 0 where
  pub after : WorldState
  pub happens : world_after plan world e ≡ Some after
  pub stands : IsWorldOf plan after new

-- the same for each plan and each state that the old World represents
abbrev pub WorldSteps : Event → SeenWorld → SeenWorld → Type 0
WorldSteps e old new = ForEachWorld old (λ plan world. WorldStep plan world e new)

-- the run leads to a state that the world represents, by this number of events
pub record RunsTo (plan : SeenPlan) (run : Counted) (events : ℕ) (new : SeenWorld) : Type 0 where
  pub counted : run.events ≡ events
  pub stands : IsWorldOf plan run.world new

-- the fork of an edge in a state: it has the ends and due numbers of the plan, its log, and the value that the log
-- gives
abbrev pub fork_seen : SeenPlan → WorldState → ℕ → SeenFork
fork_seen plan world e = fork_by plan e (fork_log plan world e)

-- the forks of all edges, in order
abbrev pub forks_seen : SeenPlan → WorldState → List SeenFork
forks_seen plan world = map (fork_seen plan world) (range_with_len 0 (edge_count plan))
