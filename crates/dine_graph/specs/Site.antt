-- What clauses see of a site, and of the lists of a plan.
use Rattle.std.specs.Prelude.{ℕ, ◌+◌, List, ◌++◌, map, length, string_bytes}
use Rattle.std.specs.List.{range_with_len}
use Rattle.dine_graph.specs.Plan.{SeenJob, SeenSite, SeenPlan}
use Rattle.dine_graph.specs.Job.{seen_job, plain_job}
use Rattle.dine_graph.specs.declared.plans.Job.{Job}
use Rattle.dine_graph.specs.declared.plans.Site.{Site}

-- the jobs of a list, and after these n plain jobs, whose numbers go on
abbrev pub seen_jobs : List Job → ℕ → List SeenJob
seen_jobs jobs n = map seen_job jobs ++ map plain_job (range_with_len (length jobs + 1) n)

-- the site that the fields of a `Site` describe
abbrev pub seen_site : Site → SeenSite
seen_site site = record { name = string_bytes site.name; jobs = seen_jobs site.jobs.items site.plain; resigns = site.resigns }

-- the plan of a version, of sites, of the ends of its edges and of their values
abbrev pub plan_of_lists : ℕ → List Site → List (ℕ × ℕ) → List ℕ → SeenPlan
plan_of_lists version sites ends values = record { version = version; sites = map seen_site sites; edges = ends; values = values }
