-- Numbers that are written over the front of a list, one behind the other.
use Rattle.std.proofs.Common.{◌≡◌, ℕ, zero, suc, ◌+◌, ◌*◌, List, [], ◌∷◌, ◌++◌, length, slice_get, slice_set, take, Some, refl, sym, ◌∙◌, ap, arith}
use Rattle.std.proofs.lemmas.List.{length-append}
use Rattle.dine_token.specs.declared.log_period.Period.{Period}
use Rattle.dine_ffi.specs.Written.{over_front, period_numbers}

take_none : (n : ℕ) → take {A = ℕ} n [] ≡ []
take_none zero = refl
take_none (suc n) = refl

-- one number more
pub over_front-push : (xs out : List ℕ) (x : ℕ) → slice_set (over_front xs out) (length xs) x ≡ over_front (xs ++ x ∷ []) out
over_front-push [] [] x = refl
over_front-push [] (y ∷ out) x = ap (λ (l : List ℕ). x ∷ l ++ out) (sym (take_none (length out)))
over_front-push (a ∷ xs) [] x = refl
over_front-push (a ∷ xs) (y ∷ out) x = ap (λ (l : List ℕ). a ∷ l) (over_front-push xs out x)

pub length-period_numbers : (ps : List Period) → length (period_numbers ps) ≡ 3 * length ps
length-period_numbers [] = refl
length-period_numbers (p ∷ ps) = omega (arith, length-period_numbers ps)

pub period_numbers-push : (ps : List Period) (p : Period) → period_numbers (ps ++ p ∷ []) ≡ period_numbers ps ++ p.site ∷ [] ++ p.first ∷ [] ++ p.count ∷ []
period_numbers-push [] p = refl
period_numbers-push (q ∷ ps) p = ap (λ (l : List ℕ). q.site ∷ q.first ∷ q.count ∷ l) (period_numbers-push ps p)

-- one period more
pub over_front-period : (ps : List Period) (p : Period) (out : List ℕ) (at : ℕ) → at ≡ 3 * length ps
    → slice_set (slice_set (slice_set (over_front (period_numbers ps) out) at p.site) (at + 1) p.first) (at + 2) p.count ≡ over_front (period_numbers (ps ++ p ∷ [])) out
over_front-period ps p out at is =
    let xs : List ℕ = period_numbers ps in
    let first : at ≡ length xs = is ∙ sym (length-period_numbers ps) in
    let second : at + 1 ≡ length (xs ++ p.site ∷ []) = omega (arith, first, length-append xs (p.site ∷ [])) in
    let third : at + 2 ≡ length (xs ++ p.site ∷ [] ++ p.first ∷ []) = omega (arith, second, length-append (xs ++ p.site ∷ []) (p.first ∷ [])) in
    ap (λ (n : ℕ). slice_set (slice_set (slice_set (over_front xs out) n p.site) (at + 1) p.first) (at + 2) p.count) first
    ∙ ap (λ (l : List ℕ). slice_set (slice_set l (at + 1) p.first) (at + 2) p.count) (over_front-push xs out p.site)
    ∙ ap (λ (n : ℕ). slice_set (slice_set (over_front (xs ++ p.site ∷ []) out) n p.first) (at + 2) p.count) second
    ∙ ap (λ (l : List ℕ). slice_set l (at + 2) p.count) (over_front-push (xs ++ p.site ∷ []) out p.first)
    ∙ ap (λ (n : ℕ). slice_set (over_front (xs ++ p.site ∷ [] ++ p.first ∷ []) out) n p.count) third
    ∙ over_front-push (xs ++ p.site ∷ [] ++ p.first ∷ []) out p.count
    ∙ ap (λ (l : List ℕ). over_front l out) (sym (period_numbers-push ps p))

-- nothing is written
pub over_front-none : (out : List ℕ) → over_front [] out ≡ out
over_front-none [] = refl
over_front-none (y ∷ out) = refl

-- the first elements with one more
pub take_next : (ps : List Period) (i : ℕ) (p : Period) → slice_get ps i ≡ Some p → (length (take i ps) ≡ i) × (take (i + 1) ps ≡ take i ps ++ p ∷ [])
take_next [] i p h = absurd cc
take_next (q ∷ ps) zero p h = (refl, (let same : q ≡ p = cc in let one : 0 + 1 ≡ 1 = refl in ap (λ (x : Period). x ∷ []) same))
take_next (q ∷ ps) (suc i) p h =
    let w = take_next ps i p h in
    let more : suc i + 1 ≡ suc (i + 1) = omega arith in
    (ap (λ (n : ℕ). suc n) w.0, ap (λ (n : ℕ). take n (q ∷ ps)) more ∙ ap (λ (l : List Period). q ∷ l) w.1)
