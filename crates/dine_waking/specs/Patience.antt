-- Runs in which each site checks its bell before one meal in so many. A polite site does so before each meal.
use Rattle.std.specs.Prelude.{◌≡◌, ℕ, zero, suc, ◌-◌, ◌<◌, ◌==◌, true, Bool, if◌then◌else◌}
use Rattle.dine_graph.specs.Plan.{SeenPlan}
use Rattle.dine_rules.specs.declared.events.EventKind.TheVariants as event
use Rattle.dine_waking.specs.Manners.{checked_after, has_checked, meals_so_far}
use Rattle.dine_waking.specs.Runs.{ByActing, Run, RunStep, ThreadStep}

-- how many meals a site of patience k is to begin without a check, after it began one when it was to begin `skips`
abbrev pub skips_then : ℕ → ℕ → ℕ
skips_then k zero = k - 1
skips_then k (suc skips) = skips

-- how many meals each site is to begin without a check, after a step that leads from one moment to the other
abbrev pub skips_after : (patience skips : ℕ → ℕ) (old new : Run) → ℕ → ℕ
skips_after patience skips old new t = if meals_so_far new t == meals_so_far old t then skips t else skips_then (patience t) (skips t)

-- The step is one of a patient site. If it is to begin no meal without a check, it begins a meal only if it has checked
-- its bell. A site of patience 0 need not check.
abbrev pub IsPatient : (plan : SeenPlan) (patience : ℕ → ℕ) (s : ℕ) (checked : ℕ → Bool) (skips : ℕ → ℕ) (old new : Run) → ThreadStep plan s old new → Type 0
IsPatient plan patience s checked skips old new (ByActing a) = 0 < patience s → a.kind ≡ event.Begin → skips s ≡ 0 → has_checked plan old checked s ≡ true
IsPatient plan patience s checked skips old new step = Unit {0}

-- one step of a run, as patient as its site is
pub record PatientStep (plan : SeenPlan) (patience : ℕ → ℕ) (checked : ℕ → Bool) (skips : ℕ → ℕ) (old new : Run) : Type 0 where
  pub step : RunStep plan old new
  pub is_patient : IsPatient plan patience step.site checked skips old new step.step

-- n such steps lead from one moment of a run to the other. `checked` says which sites had checked their bells by the
-- first one, and `skips` how many meals each is to begin without a check.
abbrev pub LeadsPatiently : SeenPlan → (ℕ → ℕ) → ℕ → (ℕ → Bool) → (ℕ → ℕ) → Run → Run → Type 0
LeadsPatiently plan patience zero checked skips old new = old ≡ new
LeadsPatiently plan patience (suc n) checked skips old new = (next : Run) × (one : PatientStep plan patience checked skips old next)
    × LeadsPatiently plan patience n (checked_after plan old one.step.site checked) (skips_after patience skips old next) next new
