-- A plan as a graph in the language of Graphviz: a line for each site, and then a line for each edge.
use Rattle.std.specs.Prelude.{ℕ, List, ◌++◌, codes}
use Rattle.std.specs.List.{flat_map, range_with_len}
use Rattle.dine_graph.specs.Plan.{SeenPlan, edge_count, hi_of, lo_of, name_of, site_count}

-- the line of a site: its name
abbrev pub dot_site : SeenPlan → ℕ → List ℕ
dot_site plan s = codes "  \"" ++ name_of plan s ++ codes "\";\n"

-- the line of an edge: the names of its lower and of its higher end
abbrev pub dot_edge : SeenPlan → ℕ → List ℕ
dot_edge plan e = codes "  \"" ++ name_of plan (lo_of plan e) ++ codes "\" -- \"" ++ name_of plan (hi_of plan e) ++ codes "\";\n"

-- the lines of the sites, in order
abbrev pub dot_sites : SeenPlan → List ℕ
dot_sites plan = flat_map (dot_site plan) (range_with_len 0 (site_count plan))

-- the lines of the edges, in order
abbrev pub dot_edges : SeenPlan → List ℕ
dot_edges plan = flat_map (dot_edge plan) (range_with_len 0 (edge_count plan))

-- the text of the plan: a first line, the lines of the sites, those of the edges, and a last line
abbrev pub dot_text : SeenPlan → List ℕ
dot_text plan = codes "graph {\n" ++ dot_sites plan ++ dot_edges plan ++ codes "}\n"
