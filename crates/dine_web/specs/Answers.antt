-- How an answer is written.
use Rattle.std.specs.Prelude.{◌≡◌, ◌⊎◌, ℕ, List, ◌++◌, length, take, drop, codes, Result, Ok, Err}
use Rattle.dine_graph.specs.Plan.{SeenPlan}
use Rattle.dine_web.specs.declared.refusals.Refusal.{Refusal}
use Rattle.dine_web.specs.Refusals.{IsAccepted, IsRefused, Says}

-- The call returns the length of the text. Its bytes are in front of what was there, as many as fit.
pub record Writes (text old new : List ℕ) (result : ℕ) : Type 0 where
  pub returned : result ≡ length text
  pub written : new ≡ take (length old) text ++ drop (length text) old

-- the answer is a text for which P holds
abbrev pub AnswersBy : (List ℕ → Type 0) → List ℕ → List ℕ → ℕ → Type 0
AnswersBy P old new result = (text : List ℕ) × P text × Writes text old new result

-- the bytes are the text of a plan that is not refused
abbrev pub IsPlan : List ℕ → Type 0
IsPlan bytes = (plan : SeenPlan) × IsAccepted bytes plan

-- the text says why the bytes are refused
abbrev pub Refuses : List ℕ → List ℕ → Type 0
Refuses bytes text = (refusal : Refusal) × IsRefused bytes refusal × Says refusal text

-- the answer of a call about a plan: the text, if the plan is not refused, and else why it is
abbrev pub IsOfPlan : List ℕ → List ℕ → Type 0
IsOfPlan bytes text = IsPlan bytes ⊎ Refuses bytes text

-- the answer is that it is done, or why it is not
abbrev pub IsDone : Result (Unit {0}) Refusal → List ℕ → Type 0
IsDone (Ok _) text = text ≡ codes "{}"
IsDone (Err refusal) text = Says refusal text
