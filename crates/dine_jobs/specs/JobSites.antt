-- The sites at which jobs expect to run.
use Rattle.std.specs.Prelude.{◌≡◌, ℕ, Some, slice_get, vec_len}
use Rattle.std.specs.Global.{Vec}
use Rattle.dine_graph.specs.Plan.{SeenPlan, site_count}

-- if there are as many jobs as sites, each job expects to run in this plan, at the site of its number
abbrev pub HaveJobSites : {J : Type 0} → (J → SeenPlan → ℕ → Type 0) → SeenPlan → Vec J → Type 0
HaveJobSites {J = J} expects plan jobs = vec_len jobs ≡ site_count plan → (s : ℕ) (job : J) → slice_get jobs.items s ≡ Some job → expects job plan s
