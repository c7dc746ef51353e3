-- What is found if some site ended with a fault: the forks that the sites hold, and the breaches that they report.
use Rattle.std.specs.Prelude.{◌≡◌, ℕ, ◌+◌, ◌<◌, ◌≤◌, ◌==◌, List, slice_get, Option, Some, None, if◌then◌else◌}
use Rattle.std.specs.List.{filter_map, range_with_len}
use Rattle.dine_token.specs.Fork.{SeenFork}
use Rattle.dine_graph.specs.Plan.{SeenPlan, edge_count, lo_of, hi_of}
use Rattle.dine_rules.specs.declared.breach.Breach.{Breach}
use Rattle.dine_rules.specs.declared.breach.Breach.TheVariants.{ClosedEarly}
use Rattle.dine_rules.specs.Holdings.{fork_at}
use Rattle.dine_rules.specs.Local.{LocalState, edge_at, traffic_at}
use Rattle.dine_rules.specs.Steps.{hand_fork}
use Rattle.dine_rules.specs.Values.{value_by}
use Rattle.dine_rules.specs.World.{place_of}
use Rattle.dine_link.specs.Links.{SeenLink}
use Rattle.dine_threads.specs.declared.gathered.SiteOut.{SiteOut}
use Rattle.dine_site_thread.specs.declared.manner.Manner.{Manner}
use Rattle.dine_site_thread.specs.declared.site_end.SiteFault.TheVariants as fault
use Rattle.dine_site_thread.specs.Endings.{Ending, HasEnded, OnLinks}
use Rattle.dine_threads.specs.Gathered.{link_from_high, link_from_low}

module _ (plan : SeenPlan) (states : ℕ → LocalState) where
  -- how many forks of an edge its end s holds, by the states in which the sites ended
  abbrev pub held_at_end : ℕ → ℕ → ℕ
  held_at_end s edge = fork_at plan s (states s) (place_of plan s edge)

  -- the fork of an edge in the hand of its end s, by these states
  abbrev pub fork_at_end : ℕ → ℕ → SeenFork
  fork_at_end s edge = hand_fork plan s edge (states s).ate (traffic_at (states s) (place_of plan s edge))

  -- the fork of the edge, if one of its ends holds it
  abbrev pub fork_in_hand : ℕ → Option SeenFork
  fork_in_hand edge = if held_at_end (lo_of plan edge) edge == 1 then Some (fork_at_end (lo_of plan edge) edge)
      else (if held_at_end (hi_of plan edge) edge == 1 then Some (fork_at_end (hi_of plan edge) edge) else None)

-- what a site reports of its end, by what it left
abbrev pub report_in : {D : Type 0} → SiteOut D → Ending
report_in out = record { ate = out.ate; tokens = out.tokens.items; journal = out.journal.items; stray = out.stray; fault = out.fault }

-- what the two links of an edge have, seen from its lower end
abbrev pub low_links : List SeenLink → ℕ → OnLinks
low_links links edge = record { put = (link_from_low links edge).put; taken = (link_from_high links edge).taken; put_refused = (link_from_low links edge).put_refused; take_refused = (link_from_high links edge).take_refused }

-- what the two links of an edge have, seen from its higher end
abbrev pub high_links : List SeenLink → ℕ → OnLinks
high_links links edge = record { put = (link_from_high links edge).put; taken = (link_from_low links edge).taken; put_refused = (link_from_high links edge).put_refused; take_refused = (link_from_low links edge).take_refused }

-- what the two links of place i of a site have
abbrev pub links_of : SeenPlan → List SeenLink → ℕ → ℕ → OnLinks
links_of plan links s i = if lo_of plan (edge_at plan s i) == s then low_links links (edge_at plan s i) else high_links links (edge_at plan s i)

-- For each site there is a state that matches what the site reports and what its links have. At most one end of each
-- edge holds its fork. The forks that were found are those that are held, in the order of the edges, and each has the
-- value that its log gives.
pub record AreStatesLeft {D : Type 0} (manner : Manner) (plan : SeenPlan) (outs : List (SiteOut D)) (links : List SeenLink) (forks : List SeenFork) : Type 0 where
  pub states : ℕ → LocalState
  pub ended : (s : ℕ) (out : SiteOut D) → slice_get outs s ≡ Some out → HasEnded manner plan s (states s) (links_of plan links s) (report_in out)
  pub at_most_one : (edge : ℕ) → edge < edge_count plan → held_at_end plan states (lo_of plan edge) edge + held_at_end plan states (hi_of plan edge) edge ≤ 1
  pub values : (edge : ℕ) (fork : SeenFork) → edge < edge_count plan → fork_in_hand plan states edge ≡ Some fork → fork.value ≡ value_by plan edge fork.log
  pub found : forks ≡ filter_map (fork_in_hand plan states) (range_with_len 0 (edge_count plan))

-- each breach that a site reports is a Close that arrived early
abbrev pub AllClosedEarly : {D : Type 0} → List (SiteOut D) → Type 0
AllClosedEarly {D} outs = (s : ℕ) (out : SiteOut D) (link : ℕ) (breach : Breach) → slice_get outs s ≡ Some out → out.fault ≡ Some (fault.Breach link breach) → breach ≡ ClosedEarly
