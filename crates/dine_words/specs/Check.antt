-- The output of the command `check`.
use Rattle.std.specs.Prelude.{ℕ, List, ◌++◌, length, map, sum, codes}
use Rattle.std.specs.Fmt.{decimal}
use Rattle.dine_graph.specs.Plan.{SeenPlan, site_count, edge_count}

-- the number of jobs of all sites
abbrev pub job_total : SeenPlan → ℕ
job_total plan = sum (map (λ site. length site.jobs) plan.sites)

-- the line with these numbers of sites, edges and jobs; the other words are the same for all numbers
abbrev pub sizes_line : ℕ → ℕ → ℕ → List ℕ
sizes_line sites edges jobs = codes "ok: " ++ decimal sites ++ codes " sites, " ++ decimal edges ++ codes " edges, " ++ decimal jobs ++ codes " jobs\n"

-- the line that says how large the plan is
abbrev pub check_text : SeenPlan → List ℕ
check_text plan = sizes_line (site_count plan) (edge_count plan) (job_total plan)
