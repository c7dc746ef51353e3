-- The lists of the sites and of the edges of a plan, each number as a value of its type.
use Rattle.std.specs.Prelude.{ℕ, ◌-◌, List, map}
use Rattle.std.specs.List.{range_with_len}
use Rattle.dine_graph.specs.declared.ids.EdgeId.{EdgeId}
use Rattle.dine_graph.specs.declared.ids.SiteId.{SiteId}

-- the site with this number
abbrev pub site_id : ℕ → SiteId
site_id n = record { 0 = n }

-- the edge with this number
abbrev pub edge_id : ℕ → EdgeId
edge_id n = record { 0 = n }

-- the sites from one number up to another, which is not in the list
abbrev pub site_ids_from : ℕ → ℕ → List SiteId
site_ids_from next end = map site_id (range_with_len next (end - next))

-- the edges from one number up to another, which is not in the list
abbrev pub edge_ids_from : ℕ → ℕ → List EdgeId
edge_ids_from next end = map edge_id (range_with_len next (end - next))
