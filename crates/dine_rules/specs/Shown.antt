-- The outcomes that journals show, and the plan whose jobs have them.
use Rattle.std.specs.Prelude.{◌≡◌, ℕ, ◌+◌, ◌<◌, Bool, true, false, List, map, slice_get, slice_index_or, Some}
use Rattle.std.specs.List.{range_with_len}
use Rattle.dine_graph.specs.Plan.{SeenPlan, job_count, job_of, resigns, site_count}
use Rattle.dine_rules.specs.declared.events.EventKind.{EventKind}
use Rattle.dine_rules.specs.Journals.{journal_of, outcomes_in}
use Rattle.dine_rules.specs.Outcomes.{with_outcomes}

-- For this number of jobs, the outcomes that a journal shows: the last meal before each Quit failed, and no other did.
-- A job without a meal did not fail.
abbrev pub shown_in : ℕ → List EventKind → List Bool
shown_in jobs journal = map (λ k. slice_index_or (outcomes_in false journal) k false) (range_with_len 0 jobs)

-- for each site of the plan, the outcomes that its journal shows (`shown_in`)
abbrev pub shown_by : SeenPlan → List (List EventKind) → List (List Bool)
shown_by plan journals = map (λ s. shown_in (job_count plan s) (journal_of journals s)) (range_with_len 0 (site_count plan))

-- the plan, except that its jobs fail as the journals show; it is not said here that a world accepts the journals
abbrev pub plan_shown : SeenPlan → List (List EventKind) → SeenPlan
plan_shown plan journals = with_outcomes plan (shown_by plan journals)

-- The sites that resign did so as the plan says. Take a meal of such a site for a job that is not its last. If it
-- ended, its journal shows it as failed exactly if that job of the plan fails.
abbrev pub ResignAsPlanned : SeenPlan → List (List EventKind) → Type 0
ResignAsPlanned plan journals = (s k : ℕ) (failed : Bool) → s < site_count plan → resigns plan s ≡ true → k + 1 < job_count plan s
    → slice_get (outcomes_in false (journal_of journals s)) k ≡ Some failed → (job_of plan s (k + 1)).fails ≡ failed
