-- How what the sites left is gathered: their links by edge, their forks by edge, and the rest by site.
use Rattle.std.specs.Prelude.{◌≡◌, ℕ, ◌*◌, ◌<◌, ◌≤◌, ◌++◌, true, List, [], ◌∷◌, All, length, map, set, slice_get, replicate, Option, Some, None, vec_len, vec_capacity}
use Rattle.dine_token.specs.Fork.{SeenFork}
use Rattle.dine_graph.specs.Plan.{SeenPlan, site_count, edge_count, edges_of}
use Rattle.dine_rules.specs.Letters.{has_close}
use Rattle.dine_link.specs.Lanes.{seen_end}
use Rattle.dine_link.specs.Links.{SeenLink, link_of}
use Rattle.dine_threads.specs.declared.collecting.Room.{Room}
use Rattle.dine_threads.specs.declared.gathered.SiteOut.{SiteOut}
use Rattle.dine_site_thread.specs.declared.port.Port.{Port}
use Rattle.dine_site_thread.specs.declared.site_end.SiteEnd.{SiteEnd}
use Rattle.dine_threads.specs.declared.slots.EdgePair.{EdgePair}
use Rattle.dine_threads.specs.Gathered.{link_from_low, link_from_high}
use Rattle.dine_site_thread.specs.Ports.{SeenPort, seen_ports}
use Rattle.dine_threads.specs.private.Spots.{low_spot, high_spot}
use Rattle.dine_threads.specs.private.Wirings.{port_at}
use Rattle.dine_link.specs.declared.lane.Lane.{Ghosts}

-- if Close was taken from a link, all letters that were put on it were
abbrev pub IsTakenToClose : SeenLink → Type 0
IsTakenToClose link = has_close link.taken ≡ true → link.taken ≡ link.put

-- Each link of an edge has what was put at one end and what was taken at the other.
pub record AreLinksLeft {Identity : Type 0} (plan : SeenPlan) (rows : List (List (SeenPort Identity))) (links : List SeenLink) : Type 0 where
  pub count : length links ≡ 2 * edge_count plan
  pub from_low : (edge : ℕ) (low high : SeenPort Identity) → edge < edge_count plan → port_at rows (low_spot plan edge) ≡ Some low → port_at rows (high_spot plan edge) ≡ Some high → link_from_low links edge ≡ link_of low.tx high.rx
  pub from_high : (edge : ℕ) (low high : SeenPort Identity) → edge < edge_count plan → port_at rows (low_spot plan edge) ≡ Some low → port_at rows (high_spot plan edge) ≡ Some high → link_from_high links edge ≡ link_of high.tx low.rx

-- the slots after each fork was moved into the slot of its edge
abbrev pub in_slots : List SeenFork → List (Option SeenFork) → List (Option SeenFork)
in_slots [] slots = slots
in_slots (fork ∷ forks) slots = in_slots forks (set slots fork.edge (Some fork))

-- the forks that are in the slots, in order
abbrev pub forks_found : List (Option SeenFork) → List SeenFork
forks_found [] = []
forks_found (None ∷ slots) = forks_found slots
forks_found (Some fork ∷ slots) = fork ∷ forks_found slots

-- every fork has the number of an edge
abbrev pub AreForksOf : SeenPlan → List SeenFork → Type 0
AreForksOf plan forks = All (λ (fork : SeenFork). fork.edge < edge_count plan) forks

-- The lists for all that is gathered: empty lists with capacity for each site, place and edge, and an empty slot for
-- each edge.
pub record IsRoomFor {S P : Type 0} (plan : SeenPlan) (room : Room S P) : Type 0 where
  pub sites : site_count plan ≤ vec_capacity room.sites
  pub no_site : vec_len room.sites ≡ 0
  pub empty_rows : vec_len room.empty ≡ site_count plan
  pub empty_room : (s : ℕ) (row : _) → slice_get room.empty.items s ≡ Some row → length (edges_of plan s) ≤ vec_capacity row
  pub no_thing : (s : ℕ) (row : _) → slice_get room.empty.items s ≡ Some row → vec_len row ≡ 0
  pub rows : site_count plan ≤ vec_capacity room.rows
  pub no_row : vec_len room.rows ≡ 0
  pub pairs : edge_count plan ≤ vec_capacity room.pairs
  pub no_pair : vec_len room.pairs ≡ 0
  pub links : 2 * edge_count plan ≤ vec_capacity room.links
  pub no_link : vec_len room.links ≡ 0
  pub slots : room.slots.items ≡ replicate (edge_count plan) None
  pub forks : edge_count plan ≤ vec_capacity room.forks
  pub no_fork : vec_len room.forks ≡ 0

module _ {Lane Tx Closed Rx D : Type 0} where
  -- a site as it ended, without its forks and its ports
  abbrev pub out_of : SiteEnd Lane D Tx Closed Rx → SiteOut D
  out_of end = record { site = end.site; ate = end.ate; failed = end.failed; diner = end.diner; tokens = end.tokens; journal = end.journal; checks = record { at = end.bell.found_empty; sealed = tt }; log = end.log; stray = end.stray; fault = end.fault }

  -- the forks in all hands, site by site
  abbrev pub forks_left : List (SiteEnd Lane D Tx Closed Rx) → List SeenFork
  forks_left [] = []
  forks_left (end ∷ ends) = end.forks.items ++ forks_left ends

  -- each site left a port for each of its places, and forks of the plan's edges
  pub record AreWholeEnds (plan : SeenPlan) (ends : List (SiteEnd Lane D Tx Closed Rx)) : Type 0 where
    pub count : length ends ≡ site_count plan
    pub ports : (s : ℕ) (end : SiteEnd Lane D Tx Closed Rx) → slice_get ends s ≡ Some end → length end.ports.items ≡ length (edges_of plan s)
    pub forks : AreForksOf plan (forks_left ends)

module _ {Lane Tx Closed Rx D : Type 0} (lane : Ghosts Lane Tx Closed Rx) where
  -- the ports of all sites as they left them, one row for each site
  abbrev pub rows_left : List (SiteEnd Lane D Tx Closed Rx) → List (List (SeenPort lane.Identity))
  rows_left ends = map (λ (end : SiteEnd Lane D Tx Closed Rx). seen_ports lane end.ports.items) ends

module _ {Lane Tx Closed Rx : Type 0} (lane : Ghosts Lane Tx Closed Rx) where
  -- Each end took from the link that the other put in.
  pub record AreJoined (both : EdgePair (Port Lane Tx Closed Rx)) : Type 0 where
    pub goes : (lane.seen_rx both.high.rx).link ≡ (seen_end lane.seen_tx lane.seen_closed both.low.tx).link
    pub comes : (lane.seen_rx both.low.rx).link ≡ (seen_end lane.seen_tx lane.seen_closed both.high.tx).link

  -- the two links of each edge, of which the one from the lower end is first
  abbrev pub links_left : List (EdgePair (Port Lane Tx Closed Rx)) → List SeenLink
  links_left [] = []
  links_left (both ∷ pairs) = link_of (seen_end lane.seen_tx lane.seen_closed both.low.tx) (lane.seen_rx both.high.rx) ∷ link_of (seen_end lane.seen_tx lane.seen_closed both.high.tx) (lane.seen_rx both.low.rx) ∷ links_left pairs
