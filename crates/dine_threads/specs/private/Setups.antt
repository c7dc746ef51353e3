-- All that a run needs before its threads start.
use Rattle.std.specs.Prelude.{◌≡◌, ◌≤◌, List, All, map, vec_len, vec_capacity}
use Rattle.dine_graph.specs.Plan.{SeenPlan, site_count}
use Rattle.dine_link.specs.Bells.{SeenBell}
use Rattle.dine_threads.specs.declared.starts.SiteStart.{SiteStart}
use Rattle.dine_threads.specs.declared.threads.Setup.{Setup}
use Rattle.dine_threads.specs.private.Collecting.{IsRoomFor}
use Rattle.dine_site_thread.specs.declared.manner.Manner.{Manner}
use Rattle.dine_site_thread.specs.Ports.{SeenPort, seen_ports}
use Rattle.dine_threads.specs.private.SiteStarts.{AreStartsOf, IsReady}
use Rattle.dine_threads.specs.private.Wirings.{AreRung, AreWired}
use Rattle.dine_link.specs.declared.lane.Lane.{Ghosts}
use Rattle.dine_site_thread.specs.declared.diner.Diner as diners

module _ {Lane Tx Closed Rx D : Type 0} (lane : Ghosts Lane Tx Closed Rx) where
  -- the ports that move into the threads, one row for each site
  abbrev pub rows_of_starts : List (SiteStart Lane D Tx Closed Rx) → List (List (SeenPort lane.Identity))
  rows_of_starts starts = map (λ (start : SiteStart Lane D Tx Closed Rx). seen_ports lane start.ports.items) starts

  -- the bells that move into the threads
  abbrev pub bells_of_starts : List (SiteStart Lane D Tx Closed Rx) → List SeenBell
  bells_of_starts starts = map (λ (start : SiteStart Lane D Tx Closed Rx). start.bell) starts

  -- What moves into the thread of each site is ready, and has the diner of its number. The link ends of each edge are
  -- wired, and each end rings the other one's bell. There is capacity for the threads, for what they leave, and for
  -- what is gathered of it.
  pub record IsSetUp (eater : diners.Ghosts D) (manner : Manner) (plan : SeenPlan) (given : List D) (setup : Setup Lane D Tx Closed Rx) : Type 0 where
    pub count : vec_len setup.starts ≡ site_count plan
    pub ready : All (IsReady lane eater) setup.starts.items
    pub fresh : AreStartsOf manner plan setup.starts.items
    pub diners : map (λ (start : SiteStart Lane D Tx Closed Rx). start.diner) setup.starts.items ≡ given
    pub wired : AreWired plan (rows_of_starts setup.starts.items)
    pub rung : AreRung plan (bells_of_starts setup.starts.items) (rows_of_starts setup.starts.items)
    pub children : site_count plan ≤ vec_capacity setup.children
    pub no_child : vec_len setup.children ≡ 0
    pub ends : site_count plan ≤ vec_capacity setup.ends
    pub no_end : vec_len setup.ends ≡ 0
    pub gathered : IsRoomFor plan setup.room
