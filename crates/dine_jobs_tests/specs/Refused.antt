-- What jobs that note their failures have noted after a run.
use Rattle.std.specs.Prelude.{◌≡◌, ℕ, List, Option, Some, slice_get}
use Rattle.std.specs.List.{last_or}
use Rattle.dine_jobs.specs.JobRuns.{numbers_of}
use Rattle.dine_jobs.specs.declared.done.SiteDone.{SiteDone}

-- The job of each site has noted the number of the last of its failures or, if it has none, what it had noted when it
-- was given.
abbrev pub HaveNotedLast : {J F : Type 0} → (J → Option ℕ) → List J → List (SiteDone J F) → Type 0
HaveNotedLast {J = J} {F = F} noted given left = (s : ℕ) (job : J) (site : SiteDone J F) → slice_get given s ≡ Some job → slice_get left s ≡ Some site → noted site.job ≡ last_or (noted job) (numbers_of site.failures.items)
