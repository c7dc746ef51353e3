-- Lists of steps of one site.
use Rattle.std.specs.Prelude.{◌≡◌, ℕ, suc, ◌==◌, Bool, true, false, List, [], ◌∷◌}
use Rattle.dine_graph.specs.Plan.{SeenPlan}
use Rattle.dine_rules.specs.Local.{LocalState}
use Rattle.dine_rules.specs.Steps.{Step, Give, Begin, may, after}

-- the steps lead from one state to the other, and each of them is allowed when its turn comes
abbrev pub LeadTo : SeenPlan → ℕ → LocalState → List Step → LocalState → Type 0
LeadTo plan s state [] new = state ≡ new
LeadTo plan s state (step ∷ steps) new = (may plan s state step ≡ true) × LeadTo plan s (after plan s state step) steps new

-- how many meals begin in the steps
abbrev pub begins_in : List Step → ℕ
begins_in [] = 0
begins_in (Begin ∷ steps) = suc (begins_in steps)
begins_in (step ∷ steps) = begins_in steps

-- the step is a Give at place i
abbrev pub is_give_at : ℕ → Step → Bool
is_give_at i (Give j) = j == i
is_give_at i step = false
