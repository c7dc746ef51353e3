-- How the sites' link ends are joined: each end of an edge takes from the link that the other puts in.
use Rattle.std.specs.Prelude.{◌≡◌, ℕ, ◌<◌, List, [], slice_get, slice_index_or, Option, Some}
use Rattle.dine_graph.specs.Plan.{SeenPlan, edge_count, lo_of, hi_of}
use Rattle.dine_rules.specs.World.{place_of}
use Rattle.dine_link.specs.Bells.{SeenBell, SeenRinger, new_ringer}
use Rattle.dine_threads.specs.declared.slots.EdgePair.{EdgePair}
use Rattle.dine_threads.specs.declared.slots.Spot.{Spot}
use Rattle.dine_site_thread.specs.Ports.{SeenPort}
use Rattle.dine_threads.specs.private.Spots.{low_spot, high_spot}

-- The ringers of the bells at the two ends of the edge, each with the place of the edge there as its number.
pub record AreRingersAt (plan : SeenPlan) (bells : List SeenBell) (edge : ℕ) (both : EdgePair SeenRinger) : Type 0 where
  pub low_bell : SeenBell
  pub high_bell : SeenBell
  pub has_low : slice_get bells (lo_of plan edge) ≡ Some low_bell
  pub has_high : slice_get bells (hi_of plan edge) ≡ Some high_bell
  pub low : both.low ≡ new_ringer low_bell.identity (place_of plan (lo_of plan edge) edge)
  pub high : both.high ≡ new_ringer high_bell.identity (place_of plan (hi_of plan edge) edge)

module _ {Identity : Type 0} where
  -- the port at a place, by the ports of all sites, one row for each site
  abbrev pub port_at : List (List (SeenPort Identity)) → Spot → Option (SeenPort Identity)
  port_at rows spot = slice_get (slice_index_or rows spot.site []) spot.at

  -- There is a port at each end of the edge. Each takes from the link that the other puts in, and the links have the
  -- numbers of the edge and of the site that puts.
  pub record IsWired (plan : SeenPlan) (rows : List (List (SeenPort Identity))) (edge : ℕ) : Type 0 where
    pub low : SeenPort Identity
    pub high : SeenPort Identity
    pub at_low : port_at rows (low_spot plan edge) ≡ Some low
    pub at_high : port_at rows (high_spot plan edge) ≡ Some high
    pub goes : high.rx.link ≡ low.tx.link
    pub comes : low.rx.link ≡ high.tx.link
    pub low_edge : low.tx.link.edge ≡ edge
    pub low_from : low.tx.link.from ≡ lo_of plan edge
    pub high_edge : high.tx.link.edge ≡ edge
    pub high_from : high.tx.link.from ≡ hi_of plan edge

  -- The port at each end of the edge has the ringer of the other end's bell, with the place of the edge there as its
  -- number, and it never rang.
  pub record IsRung (plan : SeenPlan) (bells : List SeenBell) (rows : List (List (SeenPort Identity))) (edge : ℕ) : Type 0 where
    pub low : SeenPort Identity
    pub high : SeenPort Identity
    pub at_low : port_at rows (low_spot plan edge) ≡ Some low
    pub at_high : port_at rows (high_spot plan edge) ≡ Some high
    pub ringers : AreRingersAt plan bells edge (record { low = high.ringer; high = low.ringer })

  -- `IsRung` holds of each edge
  abbrev pub AreRung : SeenPlan → List SeenBell → List (List (SeenPort Identity)) → Type 0
  AreRung plan bells rows = (edge : ℕ) → edge < edge_count plan → IsRung plan bells rows edge

  -- each edge is wired
  abbrev pub AreWired : SeenPlan → List (List (SeenPort Identity)) → Type 0
  AreWired plan rows = (edge : ℕ) → edge < edge_count plan → IsWired plan rows edge
