-- The headline. If `run` returns Ok or Broken, all sites have joined: the letters taken from each link are a prefix of
-- the letters put on it, and nothing was put after Close. If it returns Ok, all letters that were put were taken, and
-- exactly one fork for each edge is gathered; its log is lawful, and has every meal that either end ate, exactly once.
-- If it returns Broken, at most one fork for each edge is found, and each breach that a site reports is a Close that
-- arrived early. No definition says when anything happened, or in which order sites ate that are no neighbours.
use Rattle.std.specs.Prelude.{◌≡◌, ◌≢◌, ℕ, ◌+◌, ◌<◌, ◌≤◌, ◌==◌, List, All, filter, length, map, slice_get, slice_index_or, vec_len, Some, Result, Ok, Err, if◌then◌else◌}
use Rattle.std.specs.Global.{Vec}
use Rattle.std.specs.List.{range_with_len}
use Rattle.dine_token.specs.declared.log_entry.Entry.{Entry}
use Rattle.dine_token.specs.Fork.{SeenFork}
use Rattle.dine_graph.specs.Plan.{SeenPlan, site_count, edge_count, edges_of, lo_of, hi_of}
use Rattle.dine_rules.specs.Holdings.{forks_held, tokens_held, hand}
use Rattle.dine_rules.specs.JoinedEnds.{IsWholeLog}
use Rattle.dine_rules.specs.Local.{edge_at}
use Rattle.dine_rules.specs.Steps.{fork_by}
use Rattle.dine_rules.specs.Streams.{IsPutInOrder}
use Rattle.dine_link.specs.Links.{SeenLink}
use Rattle.dine_threads.specs.declared.gathered.SiteOut.{SiteOut}
use Rattle.dine_threads.specs.declared.gathered.RunFault.{RunFault}
use Rattle.dine_threads.specs.declared.gathered.RunFault.TheVariants.{DinersDiffer, Memory, Thread, Broken}
use Rattle.dine_threads.specs.Brokens.{AllClosedEarly, AreStatesLeft}
use Rattle.dine_threads.specs.Gathered.{AreLinksOf, AreOutsOf, IsTakenInOrder, IsClosedWhole, IsLowestFault, low_traffic, high_traffic, traffic_of}
use Rattle.dine_site_thread.specs.declared.manner.Manner.{Manner}
use Rattle.dine_site_thread.specs.declared.diner.Diner as diners

-- All sites have joined: there are two links for each edge, from each link the letters were taken in order, and what
-- each end put is in order.
pub record AllJoined (plan : SeenPlan) (ates : List ℕ) (links : List SeenLink) : Type 0 where
  pub by_edge : AreLinksOf plan links
  pub in_order : All IsTakenInOrder links
  pub puts : (s i : ℕ) → s < site_count plan → i < length (edges_of plan s) → IsPutInOrder plan s i (slice_index_or ates s 0) (traffic_of plan links s (edge_at plan s i))

module _ (plan : SeenPlan) (ates : List ℕ) (links : List SeenLink) where
  -- how many meals a site ate
  abbrev pub ate_of : ℕ → ℕ
  ate_of s = slice_index_or ates s 0

  -- the log in the hand of the end that holds the edge's fork
  abbrev pub log_in_hand : ℕ → List Entry
  log_in_hand edge = if forks_held plan (lo_of plan edge) edge (low_traffic links edge) == 1
      then hand (lo_of plan edge) (ate_of (lo_of plan edge)) (low_traffic links edge)
      else hand (hi_of plan edge) (ate_of (hi_of plan edge)) (high_traffic links edge)

  -- Exactly one end holds the edge's fork, and this is the fork. Its log is whole, and its value is the one that the
  -- log gives. [paper: one fork]
  pub record IsTheFork (edge : ℕ) (fork : SeenFork) : Type 0 where
    pub one : forks_held plan (lo_of plan edge) edge (low_traffic links edge) + forks_held plan (hi_of plan edge) edge (high_traffic links edge) ≡ 1
    pub in_hand : fork ≡ fork_by plan edge (log_in_hand edge)
    pub whole : IsWholeLog plan edge (ate_of (lo_of plan edge)) (ate_of (hi_of plan edge)) fork.log

  -- `run` returned Ok: all sites have joined, all letters that were put were taken, and there is one fork for each
  -- edge, in the order of the edges. `IsTheFork` holds of each.
  pub record IsHeadline (forks : List SeenFork) : Type 0 where
    pub joined : AllJoined plan ates links
    pub all_taken : All IsClosedWhole links
    pub one_fork_an_edge : map (λ (fork : SeenFork). fork.edge) forks ≡ range_with_len 0 (edge_count plan)
    pub each_fork : (edge : ℕ) (fork : SeenFork) → slice_get forks edge ≡ Some fork → IsTheFork edge fork

-- Exactly one end of each edge holds its token. Each site has left the tokens that it holds, in the order of the edges.
pub record AreTokensOf {D : Type 0} (plan : SeenPlan) (links : List SeenLink) (outs : List (SiteOut D)) : Type 0 where
  pub one : (edge : ℕ) → edge < edge_count plan → tokens_held plan (lo_of plan edge) edge (low_traffic links edge) + tokens_held plan (hi_of plan edge) edge (high_traffic links edge) ≡ 1
  pub stand : (s : ℕ) (out : SiteOut D) → slice_get outs s ≡ Some out → out.tokens.items ≡ filter (λ edge. tokens_held plan s edge (traffic_of plan links s edge) == 1) (edges_of plan s)

-- What holds if `run` returns an error. DinersDiffer: there are not as many diners as sites, and the error has their
-- number and the diners. The other three: there are as many diners as sites. Thread: the site that is named is one of
-- the plan. Memory, Thread: nothing is said of the cause, or of the letters that moved. Broken: all sites have joined,
-- the site that is named is the lowest with a fault, and `AreOutsOf`, `AreStatesLeft` and `AllClosedEarly` say what was
-- found.
abbrev pub FaultIs : {D : Type 0} → diners.Ghosts D → Manner → SeenPlan → Vec D → RunFault D → Type 0
FaultIs eater manner plan diners (DinersDiffer given back) = (given ≡ vec_len diners) × (back ≡ diners) × (vec_len diners ≢ site_count plan)
FaultIs eater manner plan diners Memory = vec_len diners ≡ site_count plan
FaultIs eater manner plan diners (Thread site) = (vec_len diners ≡ site_count plan) × (site < site_count plan)
FaultIs eater manner plan diners (Broken site joined) = (vec_len diners ≡ site_count plan) × AllJoined plan (map (λ (out : SiteOut _). out.ate) joined.sites.items) joined.links.items × AreOutsOf eater manner plan diners.items joined.sites.items × IsLowestFault site joined.sites.items
    × AreStatesLeft manner plan joined.sites.items joined.links.items joined.forks.items × AllClosedEarly joined.sites.items

-- What a run with too few threads returns: an error, and not Broken. If the error is Thread, the number of the site
-- that is named is at most `threads`.
abbrev pub FallsShort : {G D : Type 0} → ℕ → Result G (RunFault D) → Type 0
FallsShort threads (Ok gathered) = ⊥
FallsShort threads (Err (DinersDiffer given back)) = Unit {0}
FallsShort threads (Err Memory) = Unit {0}
FallsShort threads (Err (Thread site)) = site ≤ threads
FallsShort threads (Err (Broken site joined)) = ⊥
