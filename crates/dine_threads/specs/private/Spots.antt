-- Things at the places of sites, in one row for each site, and the places of the two ends of an edge.
use Rattle.std.specs.Prelude.{◌≡◌, ℕ, zero, suc, ◌<◌, Option, Some, None, IsSome, List, [], ◌∷◌, slice_index_or, slice_get, length}
use Rattle.std.specs.Global.{Vec}
use Rattle.dine_graph.specs.Plan.{SeenPlan, site_count, edges_of, lo_of, hi_of}
use Rattle.dine_rules.specs.World.{place_of}
use Rattle.dine_threads.specs.declared.slots.Spot.{Spot}
use Rattle.dine_threads.specs.declared.slots.EdgePair.{EdgePair}

-- the row of a site
abbrev pub row_at : {P : Type 0} → List (Vec (Option P)) → ℕ → List (Option P)
row_at [] i = []
row_at (row ∷ rows) zero = row.items
row_at (row ∷ rows) (suc i) = row_at rows i

-- the thing at a place of a site, if there is one
abbrev pub slot_at : {P : Type 0} → List (Vec (Option P)) → Spot → Option P
slot_at rows spot = slice_index_or (row_at rows spot.site) spot.at None

-- the place of an edge at its lower end
abbrev pub low_spot : SeenPlan → ℕ → Spot
low_spot plan edge = record { site = lo_of plan edge; at = place_of plan (lo_of plan edge) edge }

-- the place of an edge at its higher end
abbrev pub high_spot : SeenPlan → ℕ → Spot
high_spot plan edge = record { site = hi_of plan edge; at = place_of plan (hi_of plan edge) edge }

-- a row of n slots, with something in each
pub record IsFullRow {P : Type 0} (n : ℕ) (row : List (Option P)) : Type 0 where
  pub count : length row ≡ n
  pub full : (i : ℕ) → i < n → IsSome (slice_index_or row i None)

module _ {P : Type 0} (plan : SeenPlan) (rows : List (Vec (Option P))) where
  -- each site has a full row, with a slot for each of its places
  abbrev pub AreFull : Type 0
  AreFull = (s : ℕ) → s < site_count plan → IsFullRow (length (edges_of plan s)) (row_at rows s)

  -- these are the things at the two ends of the edge
  pub record IsPairAt (edge : ℕ) (both : EdgePair P) : Type 0 where
    pub low : slot_at rows (low_spot plan edge) ≡ Some both.low
    pub high : slot_at rows (high_spot plan edge) ≡ Some both.high

  -- `IsPairAt` holds of each edge, in order
  abbrev pub ArePairsAt : List (EdgePair P) → Type 0
  ArePairsAt pairs = (edge : ℕ) (both : EdgePair P) → slice_get pairs edge ≡ Some both → IsPairAt edge both
