-- A plan with other outcomes of its jobs. A world with given outcomes is a world of such a plan.
use Rattle.std.specs.Prelude.{◌≡◌, ℕ, Bool, false, List, [], ◌∷◌}
use Rattle.dine_graph.specs.Plan.{SeenPlan, SeenSite, SeenJob, resigns}

-- the jobs, each with the outcome at its position in the list; a job past the end of the list keeps its own
abbrev pub jobs_with : List SeenJob → List Bool → List SeenJob
jobs_with [] fails = []
jobs_with (job ∷ jobs) [] = job ∷ jobs
jobs_with (job ∷ jobs) (failed ∷ fails) = record job { fails = failed } ∷ jobs_with jobs fails

-- the sites, each with the outcomes at its position in the list; a site past the end of the list keeps its own
abbrev pub sites_with : List SeenSite → List (List Bool) → List SeenSite
sites_with [] fails = []
sites_with (site ∷ sites) [] = site ∷ sites
sites_with (site ∷ sites) (own ∷ fails) = record site { jobs = jobs_with site.jobs own } ∷ sites_with sites fails

-- the plan with these outcomes of its jobs: for each site a list, which says of each of its jobs whether it fails
abbrev pub with_outcomes : SeenPlan → List (List Bool) → SeenPlan
with_outcomes plan fails = record plan { sites = sites_with plan.sites fails }

-- no site of the plan resigns: each goes on after a job that failed
abbrev pub NoSiteResigns : SeenPlan → Type 0
NoSiteResigns plan = (s : ℕ) → resigns plan s ≡ false
