-- The places of a site: which edge is there, and which site is at its other end.
use Rattle.std.proofs.Common.{◌≡◌, ◌⊎◌, ℕ, zero, suc, ◌+◌, ◌<◌, Bool, true, eqb, List, [], ◌∷◌, filter, length, get_or, sym, ◌∙◌, subst, inl, inr, arith}
use Rattle.std.specs.List.{range_with_len}
use Rattle.std.proofs.lemmas.Bool.{cases_Bool, or_cases, eqb-true, cond-true, cond-false, false≢true}
use Rattle.dine_graph.specs.Plan.{SeenPlan, IsPlan, edge_count, edges_of, lo_of, hi_of, is_end, other_of}
use Rattle.dine_rules.specs.Local.{edge_at, neighbour_at}

-- each element of the list has P and passes the test
abbrev pub AllPass : (ℕ → Bool) → (ℕ → Type 0) → ℕ → List ℕ → Type 0
AllPass test P d l = (i : ℕ) → i < length l → P (get_or l i d) × (test (get_or l i d) ≡ true)

passes_cons : (test : ℕ → Bool) (P : ℕ → Type 0) (d x : ℕ) (xs : List ℕ) → P x → test x ≡ true → AllPass test P d xs → AllPass test P d (x ∷ xs)
passes_cons test P d x xs here passes rest zero h = (here, passes)
passes_cons test P d x xs here passes rest (suc i) h = rest i (omega arith)

-- each element of a filtered list is one of the list, and passes
pub filter-at : (test : ℕ → Bool) (P : ℕ → Type 0) (xs : List ℕ) (d : ℕ) → ((j : ℕ) → j < length xs → P (get_or xs j d)) → AllPass test P d (filter test xs)
filter-at test P [] d all = λ i h. absurd (omega arith)
filter-at test P (x ∷ xs) d all =
    let rest : AllPass test P d (filter test xs) = filter-at test P xs d (λ j l. all (suc j) (omega arith)) in
    elim (cases_Bool (test x)) [
      | inl passes ↦ subst (AllPass test P d) (sym (cond-true (test x) (x ∷ filter test xs) (filter test xs) passes)) (passes_cons test P d x (filter test xs) (all zero (omega arith)) passes rest)
      | inr fails ↦ subst (AllPass test P d) (sym (cond-false (test x) (x ∷ filter test xs) (filter test xs) fails)) rest
    ]

-- the numbers of a range are within it
range_within : (a n j : ℕ) → j < length (range_with_len a n) → get_or (range_with_len a n) j 0 < a + n
range_within a zero j h = absurd (omega arith)
range_within a (suc n) zero h = omega arith
range_within a (suc n) (suc j) h = omega (arith, range_within (a + 1) n j (omega arith))

-- Who is where at a place: the site at the lower end, or at the higher.
pub record IsPlaced (plan : SeenPlan) (s i : ℕ) : Type 0 where
  pub edge_within : edge_at plan s i < edge_count plan
  pub ordered : lo_of plan (edge_at plan s i) < hi_of plan (edge_at plan s i)
  pub sides : ((lo_of plan (edge_at plan s i) ≡ s) × (neighbour_at plan s i ≡ hi_of plan (edge_at plan s i)))
      ⊎ ((hi_of plan (edge_at plan s i) ≡ s) × (neighbour_at plan s i ≡ lo_of plan (edge_at plan s i)))

pub placed : (plan : SeenPlan) (s i : ℕ) → IsPlan plan → i < length (edges_of plan s) → IsPlaced plan s i
placed plan s i is_plan h =
    let w = filter-at (is_end plan s) (λ e. e < edge_count plan) (range_with_len 0 (edge_count plan)) 0 (λ j l. omega (arith, range_within 0 (edge_count plan) j l)) i h in
    let lower_first = is_plan.ordered (edge_at plan s i) w.0 in
    record { edge_within = w.0; ordered = lower_first; sides = ends (edge_at plan s i) lower_first w.1 }
  where
    ends : (e : ℕ) → lo_of plan e < hi_of plan e → is_end plan s e ≡ true
        → ((lo_of plan e ≡ s) × (other_of plan e s ≡ hi_of plan e)) ⊎ ((hi_of plan e ≡ s) × (other_of plan e s ≡ lo_of plan e))
    ends e lower_first h = elim (cases_Bool (eqb (lo_of plan e) s)) [
      | inl same ↦ inl (eqb-true _ _ same, cond-true (eqb (lo_of plan e) s) (hi_of plan e) (lo_of plan e) same)
      | inr other ↦ elim (or_cases _ _ h) [
        | inl same ↦ absurd (false≢true (sym other ∙ same))
        | inr same ↦ inr (eqb-true _ _ same, cond-false (eqb (lo_of plan e) s) (hi_of plan e) (lo_of plan e) other)
      ]
    ]
