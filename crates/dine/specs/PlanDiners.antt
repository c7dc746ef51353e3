-- The diner of a plan, as contracts see it, without the turns of its jobs.
use Rattle.std.specs.Prelude.{◌≡◌, ℕ, Bool, false, not, List, ◌∷◌, map, slice_index_or, if◌then◌else◌}
use Rattle.dine_graph.specs.Plan.{SeenPlan, SeenJob, jobs_of}
use Rattle.dine_site_thread.specs.declared.diner.Call.{Call}
use Rattle.dine_site_thread.specs.declared.diner.Diner as diners

-- a diner of a plan: its site; the calls so far, in order; for each job of its site, whether it fails; the number of
-- further calls that it has capacity for; and the word after the turns so far
pub record SeenPlanDiner : Type 0 where
  pub site : ℕ
  pub calls : List Call
  pub marks : List Bool
  pub room : ℕ
  pub word : ℕ

-- the word before the first turn
abbrev pub first_word : ℕ
first_word = 2463534242

-- whether each job of a site fails, in order
abbrev pub fails_of : SeenPlan → ℕ → List Bool
fails_of plan s = map (λ (job : SeenJob). job.fails) (jobs_of plan s)

-- the mark of meal k, from 1: whether its job fails. A meal without a job does not fail.
abbrev pub mark_of : List Bool → ℕ → Bool
mark_of marks k = slice_index_or (false ∷ marks) k false

-- the result of meal k fits the marks: its job went well if and only if its mark is not set
abbrev pub fits_marks : List Bool → ℕ → Bool → Bool
fits_marks marks k ok = if mark_of marks k then not ok else ok

-- the diner is that of this site, and its marks are those of the jobs that the site has in this plan
abbrev pub IsDinerOf : SeenPlanDiner → SeenPlan → ℕ → Type 0
IsDinerOf diner plan site = (site ≡ diner.site) × (diner.marks ≡ fails_of plan site)

-- a diner of a plan as any diner is seen; it expects to eat at its site, with the jobs of the plan
abbrev pub plan_diner : diners.Ghosts SeenPlanDiner
plan_diner = record { calls = λ d. d.calls; marks = λ d. d.marks; fits = fits_marks; room_left = λ d. d.room; expects = IsDinerOf }
