-- The tables of a run, as text. Numbers are plain decimal.
use Rattle.std.specs.Prelude.{ℕ, ◌==◌, if◌then◌else◌, ◌<◌, List, [], ◌∷◌, ◌++◌, codes}
use Rattle.std.specs.Fmt.{decimal}
use Rattle.std.specs.List.{flat_map, join_with_byte}
use Rattle.dine_graph.specs.Plan.{SeenPlan, site_count, edge_count, name_of}
use Rattle.dine_threads.specs.declared.tables.EdgeRow.{EdgeRow}
use Rattle.dine_threads.specs.declared.tables.SiteRow.{SiteRow}

-- the fields with a comma between each two, and a line feed at the end
abbrev pub record_text : List (List ℕ) → List ℕ
record_text fields = join_with_byte 44 fields ++ codes "\n"

-- The numbers in a row are the numbers of an edge and of two sites of the plan. It does not say that these sites are
-- the ends of that edge.
pub record IsEdgeRowOf (plan : SeenPlan) (row : EdgeRow) : Type 0 where
  pub edge_in : row.edge < edge_count plan
  pub lo_in : row.lo < site_count plan
  pub hi_in : row.hi < site_count plan

-- the number in a row is that of a site of the plan
abbrev pub IsSiteRowOf : SeenPlan → SiteRow → Type 0
IsSiteRowOf plan row = row.site < site_count plan

-- the last column of the table of edges, which a plan of version 2 has and a plan of version 1 does not have
abbrev pub value_column : SeenPlan → List ℕ → List (List ℕ)
value_column plan field = if plan.version == 2 then field ∷ [] else []

-- the first record of the table of edges
abbrev pub edges_header : SeenPlan → List ℕ
edges_header plan = record_text (codes "edge" ∷ codes "lo" ∷ codes "hi" ∷ codes "lo_meals" ∷ codes "hi_meals" ∷ value_column plan (codes "value"))

-- the record of an edge: its number, the names of its ends, their numbers of meals, and in version 2 its value
abbrev pub edge_record : SeenPlan → EdgeRow → List ℕ
edge_record plan row = record_text (decimal row.edge ∷ name_of plan row.lo ∷ name_of plan row.hi ∷ decimal row.lo_meals ∷ decimal row.hi_meals ∷ value_column plan (decimal row.value))

-- the table of edges
abbrev pub edges_table : SeenPlan → List EdgeRow → List ℕ
edges_table plan rows = edges_header plan ++ flat_map (edge_record plan) rows

-- the first record of the table of sites
abbrev pub sites_header : List ℕ
sites_header = record_text (codes "site" ∷ codes "meals" ∷ codes "failed" ∷ [])

-- the record of a site: its name, the number of its meals, and in how many of them its job failed
abbrev pub site_record : SeenPlan → SiteRow → List ℕ
site_record plan row = record_text (name_of plan row.site ∷ decimal row.meals ∷ decimal row.failed ∷ [])

-- the table of sites
abbrev pub sites_table : SeenPlan → List SiteRow → List ℕ
sites_table plan rows = sites_header ++ flat_map (site_record plan) rows
