-- What a diner did in a row of meals, and what a failed job means at its site.
use Rattle.std.specs.Prelude.{◌≡◌, ℕ, not, Bool, true, false, List, [], ◌∷◌, ◌++◌, All, map, count_by}
use Rattle.std.specs.List.{list_any}
use Rattle.dine_token.specs.Lawful.{count_from}
use Rattle.dine_rules.specs.declared.events.EventKind.{EventKind}
use Rattle.dine_rules.specs.declared.events.EventKind.TheVariants as event
use Rattle.dine_site_thread.specs.declared.diner.Call.{Call}

-- the numbers of the meals of these calls, in order
abbrev pub meals_called : List Call → List ℕ
meals_called calls = map (λ (call : Call). call.k) calls

-- how many of the calls failed
abbrev pub failed_in : List Call → ℕ
failed_in calls = count_by (λ (call : Call). not call.ok) calls

-- The diner was called for the meals 1, 2, 3, .. up to `ate`, once each and in this order. The result of each call fits
-- the marks, `failed` of these calls failed, and the marks have not changed.
pub record HasEaten {D : Type 0} (calls : D → List Call) (marks : D → List Bool) (fits : List Bool → ℕ → Bool → Bool) (ate failed : ℕ) (old new : D) : Type 0 where
  pub added : List Call
  pub called : calls new ≡ calls old ++ added
  pub in_order : meals_called added ≡ count_from 1 ate
  pub answers : All (λ (call : Call). fits (marks old) call.k call.ok ≡ true) added
  pub failures : failed_in added ≡ failed
  pub marked : marks new ≡ marks old

-- there were calls after the old ones, and the last of them failed
pub record HasLastFailed (old new : List Call) : Type 0 where
  pub before : List Call
  pub last : Call
  pub called : new ≡ old ++ before ++ last ∷ []
  pub failed : last.ok ≡ false

-- among the calls after the old ones, a call that failed is the last
abbrev pub StopsAtFailed : List Call → List Call → Type 0
StopsAtFailed old new = (before later : List Call) (call : Call) → new ≡ old ++ before ++ call ∷ later → call.ok ≡ false → later ≡ []

-- the event is Quit
abbrev pub is_quit : EventKind → Bool
is_quit event.Quit = true
is_quit kind = false

-- the journal shows that the site quit
abbrev pub shows_quit : List EventKind → Bool
shows_quit journal = list_any is_quit journal

-- If the site resigns, no call follows one that failed. If the journal shows that it quit, it resigns, there were
-- calls, and the last of them failed.
pub record ObeysFailures (resigns : Bool) (journal : List EventKind) (old new : List Call) : Type 0 where
  pub stops : resigns ≡ true → StopsAtFailed old new
  pub quits : shows_quit journal ≡ true → HasLastFailed old new
  pub resigned : shows_quit journal ≡ true → resigns ≡ true
