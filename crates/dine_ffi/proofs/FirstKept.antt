-- The fork that a site keeps of an edge at the start.
use Rattle.std.proofs.Common.{◌≡◌, ◌≢◌, ℕ, zero, suc, ◌+◌, ◌<◌, eqb, List, [], ◌∷◌, ◌++◌, get_or, length, map, take, Some, None, refl, ◌∙◌, ap, arith}
use Rattle.std.proofs.lemmas.Bool.{cond-false, cond-true, eq-eqb, ne_eqb}
use Rattle.dine_graph.specs.Plan.{SeenPlan, lo_of}
use Rattle.dine_rules.specs.Steps.{opened_fork}
use Rattle.dine_ffi.specs.Shelves.{first_kept}

pub kept_low : (plan : SeenPlan) (s edge : ℕ) → lo_of plan edge ≡ s → first_kept plan s edge ≡ None
kept_low plan s edge low = cond-true (eqb (lo_of plan edge) s) None (Some (opened_fork plan edge)) (eq-eqb (lo_of plan edge) s low)

pub kept_high : (plan : SeenPlan) (s edge : ℕ) → lo_of plan edge ≢ s → first_kept plan s edge ≡ Some (opened_fork plan edge)
kept_high plan s edge high = cond-false (eqb (lo_of plan edge) s) None (Some (opened_fork plan edge)) (ne_eqb (lo_of plan edge) s high)

-- one edge more
pub map_next : {X : Type 0} (f : ℕ → X) (xs : List ℕ) (i : ℕ) → i < length xs → map f (take (i + 1) xs) ≡ map f (take i xs) ++ f (get_or xs i 0) ∷ []
map_next f [] i h = absurd (omega (arith, h))
map_next f (x ∷ xs) zero h = refl
map_next f (x ∷ xs) (suc i) h =
    let more : suc i + 1 ≡ suc (i + 1) = omega arith in
    ap (λ (n : ℕ). map f (take n (x ∷ xs))) more ∙ ap (λ (l : List _). f x ∷ l) (map_next f xs i (omega (arith, h)))
