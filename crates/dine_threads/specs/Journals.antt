-- The journals of a run: the events of each site, in the order in which it did them on its thread.
use Rattle.std.specs.Prelude.{◌≡◌, ℕ, ◌<◌, nat_lt, false, List, length, map}
use Rattle.std.specs.List.{range_with_len}
use Rattle.dine_graph.specs.Plan.{SeenPlan, IsPlan, site_count, edges_of, job_count}
use Rattle.dine_rules.specs.declared.events.EventKind.{EventKind}
use Rattle.dine_rules.specs.declared.phase.Phase.TheVariants.{Thinking}
use Rattle.dine_rules.specs.declared.events.Event.{Event}
use Rattle.dine_rules.specs.Journals.{IsJournal, IsWholeOrder, journal_of}
use Rattle.dine_rules.specs.Local.{LocalState}
use Rattle.dine_rules.specs.Shown.{plan_shown}
use Rattle.dine_rules.specs.World.{WorldState}
use Rattle.dine_link.specs.Links.{SeenLink}
use Rattle.dine_site_thread.specs.declared.manner.Manner.{Manner}
use Rattle.dine_site_thread.specs.Doings.{HasActed}
use Rattle.dine_threads.specs.Gathered.{traffic_of}
use Rattle.dine_threads.specs.Headline.{ate_of}

module _ (plan : SeenPlan) (ates : List ℕ) (links : List SeenLink) where
  -- The final state of a site that has no job left. It thinks, and does not have to quit. It has quit exactly if it ate
  -- fewer meals than it has jobs. What it put and took is in its links.
  abbrev pub state_left : ℕ → LocalState
  state_left s = record { phase = Thinking; ate = ate_of plan ates links s; must_quit = false; has_quit = nat_lt (ate_of plan ates links s) (job_count plan s); traffic = map (traffic_of plan links s) (edges_of plan s) }

  -- the final states of all sites
  abbrev pub states_left : WorldState
  states_left = map state_left (range_with_len 0 (site_count plan))

  -- Start each site in its initial state, and do the events of its journal with the letters that it took from its
  -- links. This leads to its final state, and so to all that it put on its links.
  abbrev pub AreJournals : List (List EventKind) → Type 0
  AreJournals journals = (s : ℕ) → s < site_count plan → IsJournal plan s (journal_of journals s) (state_left s)

  -- Each site did the events of its journal, each in its turn for a site of this manner (`AreInTurn`), and they led it
  -- to its final state.
  abbrev pub HaveActed : Manner → List (List EventKind) → Type 0
  HaveActed manner journals = (s : ℕ) → s < site_count plan → HasActed manner plan s (journal_of journals s) (state_left s)

-- `IsPlan` holds of the plan. There is one journal for each site, and the journals can be merged into one list that
-- keeps the order of each journal. A world accepts this list event by event, and is complete at its end. It is a world
-- of another plan (`plan_shown`): the given plan, except that its jobs fail as the journals show. The list need not be
-- the order in time.
pub record HaveOrder (plan : SeenPlan) (journals : List (List EventKind)) : Type 0 where
  pub is_plan : IsPlan plan
  pub count : length journals ≡ site_count plan
  pub events : List Event
  pub is_order : IsWholeOrder (plan_shown plan journals) journals events
