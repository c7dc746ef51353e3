-- What is gathered when all sites of a plan have joined: the links by edge, and of each site its meals and its diner.
use Rattle.std.specs.Prelude.{◌≡◌, ◌≢◌, ◌⊎◌, ℕ, ◌+◌, ◌*◌, ◌<◌, ◌≤◌, ◌==◌, ◌||◌, true, false, List, [], length, slice_get, slice_index_or, Some, None, if◌then◌else◌}
use mathlib.Core.List.{IsPrefix}
use Rattle.dine_graph.specs.Plan.{SeenPlan, site_count, edge_count, job_count, lo_of, hi_of, resigns}
use Rattle.dine_rules.specs.Local.{Traffic}
use Rattle.dine_rules.specs.Streams.{is_close_last, IsClosedInOrder}
use Rattle.dine_link.specs.Links.{SeenLink, IsLink}
use Rattle.dine_threads.specs.declared.gathered.SiteOut.{SiteOut}
use Rattle.dine_site_thread.specs.declared.manner.Manner.{Manner}
use Rattle.dine_site_thread.specs.Doings.{empty_checks_of}
use Rattle.dine_site_thread.specs.Threads.{HasWorkedToEnd}
use Rattle.dine_site_thread.specs.Diners.{HasEaten, ObeysFailures, shows_quit}
use Rattle.dine_site_thread.specs.declared.diner.Diner as diners

-- the link past the end of the list
abbrev pub no_link : SeenLink
no_link = record { edge = 0; from = 0; put = []; taken = []; put_at = []; taken_at = []; put_refused = false; take_refused = false }

-- the link from the lower end of an edge
abbrev pub link_from_low : List SeenLink → ℕ → SeenLink
link_from_low links edge = slice_index_or links (2 * edge) no_link

-- the link from the higher end of an edge
abbrev pub link_from_high : List SeenLink → ℕ → SeenLink
link_from_high links edge = slice_index_or links (2 * edge + 1) no_link

-- There are two links for each edge, in the order of the edges. The one from the lower end is first.
pub record AreLinksOf (plan : SeenPlan) (links : List SeenLink) : Type 0 where
  pub count : length links ≡ 2 * edge_count plan
  pub low_edge : (edge : ℕ) → edge < edge_count plan → (link_from_low links edge).edge ≡ edge
  pub low_from : (edge : ℕ) → edge < edge_count plan → (link_from_low links edge).from ≡ lo_of plan edge
  pub high_edge : (edge : ℕ) → edge < edge_count plan → (link_from_high links edge).edge ≡ edge
  pub high_from : (edge : ℕ) → edge < edge_count plan → (link_from_high links edge).from ≡ hi_of plan edge

-- what the lower end of an edge put and took
abbrev pub low_traffic : List SeenLink → ℕ → Traffic
low_traffic links edge = record { put = (link_from_low links edge).put; taken = (link_from_high links edge).taken }

-- what the higher end of an edge put and took
abbrev pub high_traffic : List SeenLink → ℕ → Traffic
high_traffic links edge = record { put = (link_from_high links edge).put; taken = (link_from_low links edge).taken }

-- what the end s of an edge put and took
abbrev pub traffic_of : SeenPlan → List SeenLink → ℕ → ℕ → Traffic
traffic_of plan links s edge = if lo_of plan edge == s then low_traffic links edge else high_traffic links edge

-- What was taken is a prefix of what was put, and nothing was put after Close. The moments of the letters taken are a
-- prefix of the moments of those put.
pub record IsTakenInOrder (link : SeenLink) : Type 0 where
  pub prefix : IsLink link
  pub nothing_after_close : is_close_last link.put ≡ true
  pub moments : IsPrefix link.taken_at link.put_at

-- All letters that were put were taken, Close is the last and has a Done before it, and the link refused nothing.
pub record IsClosedWhole (link : SeenLink) : Type 0 where
  pub taken : link.taken ≡ link.put
  pub in_order : IsClosedInOrder link.put
  pub unrefused : (link.put_refused || link.take_refused) ≡ false

module _ {D : Type 0} (eater : diners.Ghosts D) (manner : Manner) (plan : SeenPlan) where
  -- What a site left, with the diner that was given for it. It has the number of the site, and at most as many meals as
  -- the site has jobs. The diner was called for the meals 1 to `ate`, in order. If the site resigns, no call follows
  -- one that failed. If it quit, it resigns, and its last call failed. Its record of empty checks is the one that goes
  -- with its manner and its journal: none, or one for each meal. Without a fault, the log of its thread has all that
  -- the thread did until the site had finished, turn by turn.
  pub record IsOutOf (s : ℕ) (given : D) (out : SiteOut D) : Type 0 where
    pub site : out.site ≡ s
    pub ate : out.ate ≤ job_count plan s
    pub eaten : HasEaten eater.calls eater.marks eater.fits out.ate out.failed given out.diner
    pub obeys : ObeysFailures (resigns plan s) out.journal.items (eater.calls given) (eater.calls out.diner)
    pub checks : out.checks.at ≡ empty_checks_of manner out.journal.items
    pub threads : out.fault ≡ None → HasWorkedToEnd manner plan s out.journal.items out.log.deeds

  -- Each site has left something, and `IsOutOf` holds of it.
  pub record AreOutsOf (given : List D) (outs : List (SiteOut D)) : Type 0 where
    pub count : length outs ≡ site_count plan
    pub each : (s : ℕ) (diner : D) (out : SiteOut D) → slice_get given s ≡ Some diner → slice_get outs s ≡ Some out → IsOutOf s diner out

module _ {D : Type 0} (plan : SeenPlan) where
  -- The site has no fault, and no letter was handed back. It ate all its meals, or it resigns and quit.
  pub record IsFinishedOut (s : ℕ) (out : SiteOut D) : Type 0 where
    pub no_fault : out.fault ≡ None
    pub no_stray : out.stray ≡ None
    pub has_no_job_left : (out.ate ≡ job_count plan s) ⊎ ((resigns plan s ≡ true) × (shows_quit out.journal.items ≡ true))

  -- `IsFinishedOut` holds of each site
  abbrev pub AreFinishedOuts : List (SiteOut D) → Type 0
  AreFinishedOuts outs = (s : ℕ) (out : SiteOut D) → slice_get outs s ≡ Some out → IsFinishedOut s out

-- the site has a fault, and no site with a lower number has one
pub record IsLowestFault {D : Type 0} (site : ℕ) (outs : List (SiteOut D)) : Type 0 where
  pub within : site < length outs
  pub faulty : (out : SiteOut D) → slice_get outs site ≡ Some out → out.fault ≢ None
  pub lowest : (s : ℕ) (out : SiteOut D) → s < site → slice_get outs s ≡ Some out → out.fault ≡ None
