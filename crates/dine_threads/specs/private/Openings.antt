-- What is opened for the sites before their threads start: their link ends and their bells.
use Rattle.std.specs.Prelude.{◌≡◌, ℕ, ◌<◌, false, List, [], All, filter, length, map, slice_get, slice_index_or, Option, Some}
use Rattle.std.specs.List.{range_with_len}
use Rattle.dine_graph.specs.Plan.{SeenPlan, site_count, edges_of, is_end, lo_of, hi_of}
use Rattle.std.specs.Global.{Vec}
use Rattle.dine_link.specs.Bells.{SeenBell, SeenRinger, new_ringer}
use Rattle.dine_threads.specs.declared.opening.SitePorts.{SitePorts}
use Rattle.dine_site_thread.specs.Ports.{SeenPort, IsFreshPort, seen_ports}
use Rattle.dine_threads.specs.private.Spots.{slot_at}
use Rattle.dine_threads.specs.private.Wirings.{AreRingersAt, IsRung, IsWired}
use Rattle.dine_link.specs.declared.lane.Lane.{Ghosts}

module _ {Lane Tx Closed Rx : Type 0} where
  -- the bells of the sites
  abbrev pub bells_of : List (SitePorts Lane Tx Closed Rx) → List SeenBell
  bells_of all_ports = map (λ (site_ports : SitePorts Lane Tx Closed Rx). site_ports.bell) all_ports

  -- a site with its bell, and no port yet
  pub record HasNoPort (plan : SeenPlan) (s : ℕ) (site_ports : SitePorts Lane Tx Closed Rx) : Type 0 where
    pub no_port : site_ports.ports.items ≡ []
    pub unrefused : site_ports.bell.refused ≡ false
    pub unchecked : site_ports.bell.found_empty ≡ []

  -- `HasNoPort` holds of each site
  abbrev pub HaveNoPort : SeenPlan → List (SitePorts Lane Tx Closed Rx) → Type 0
  HaveNoPort plan all_ports = (s : ℕ) (site_ports : SitePorts Lane Tx Closed Rx) → slice_get all_ports s ≡ Some site_ports → HasNoPort plan s site_ports

-- At each place, the row of a site has the ringer of its bell with the number of the place.
abbrev pub AreRingersOf : SeenPlan → List SeenBell → List (Vec (Option SeenRinger)) → Type 0
AreRingersOf plan bells rows = (s i : ℕ) (bell : SeenBell) → slice_get bells s ≡ Some bell → i < length (edges_of plan s) → slot_at rows (record { site = s; at = i }) ≡ Some (new_ringer bell.identity i)

-- The ports of the edges below n are at their sites, in the order of the edges. Nothing was put, taken or rung at them.
-- The two ports of an edge are wired, and each rings the other end's bell.
pub record ArePlaced {Identity : Type 0} (plan : SeenPlan) (bells : List SeenBell) (n : ℕ) (rows : List (List (SeenPort Identity))) : Type 0 where
  pub count : length rows ≡ site_count plan
  pub edges : (s : ℕ) → s < site_count plan → map (λ (port : SeenPort Identity). port.tx.link.edge) (slice_index_or rows s []) ≡ filter (is_end plan s) (range_with_len 0 n)
  pub unused : (s : ℕ) → s < site_count plan → All IsFreshPort (slice_index_or rows s [])
  pub wired : (edge : ℕ) → edge < n → IsWired plan rows edge
  pub rung : (edge : ℕ) → edge < n → IsRung plan bells rows edge

-- Two ports of an edge, of two links that were never used: they are wired, and each rings the other end's bell.
pub record AreNewPorts {Identity : Type 0} (plan : SeenPlan) (bells : List SeenBell) (edge : ℕ) (low high : SeenPort Identity) : Type 0 where
  pub low_fresh : IsFreshPort low
  pub high_fresh : IsFreshPort high
  pub ringers : AreRingersAt plan bells edge (record { low = high.ringer; high = low.ringer })
  pub goes : high.rx.link ≡ low.tx.link
  pub comes : low.rx.link ≡ high.tx.link
  pub low_edge : low.tx.link.edge ≡ edge
  pub low_from : low.tx.link.from ≡ lo_of plan edge
  pub high_edge : high.tx.link.edge ≡ edge
  pub high_from : high.tx.link.from ≡ hi_of plan edge

module _ {Lane Tx Closed Rx : Type 0} (lane : Ghosts Lane Tx Closed Rx) where
  -- the ports of all sites, one row for each site
  abbrev pub rows_of : List (SitePorts Lane Tx Closed Rx) → List (List (SeenPort lane.Identity))
  rows_of all_ports = map (λ (site_ports : SitePorts Lane Tx Closed Rx). seen_ports lane site_ports.ports.items) all_ports

  -- What a site has before its thread starts: a port with unused ends for each place, and its bell.
  pub record HasPorts (plan : SeenPlan) (s : ℕ) (site_ports : SitePorts Lane Tx Closed Rx) : Type 0 where
    pub ports : length site_ports.ports.items ≡ length (edges_of plan s)
    pub unused : All IsFreshPort (seen_ports lane site_ports.ports.items)
    pub unrefused : site_ports.bell.refused ≡ false
    pub unchecked : site_ports.bell.found_empty ≡ []

  -- `HasPorts` holds of each site
  abbrev pub HavePorts : SeenPlan → List (SitePorts Lane Tx Closed Rx) → Type 0
  HavePorts plan all_ports = (s : ℕ) (site_ports : SitePorts Lane Tx Closed Rx) → slice_get all_ports s ≡ Some site_ports → HasPorts plan s site_ports
