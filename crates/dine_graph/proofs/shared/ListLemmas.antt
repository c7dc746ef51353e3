-- Elements of lists that pass a test, and lists one element longer.
use Rattle.std.proofs.Common.{◌≡◌, ℕ, zero, suc, ◌+◌, ◌<◌, ◌≤◌, ◌==◌, Bool, true, false, not, cond, ltb, List, [], ◌∷◌, ◌++◌, map, filter, length, get_or, Some, None, inl, inr, refl, ap, arith}
use Rattle.std.specs.List.{list_any, position, position_or_len, range_with_len}
use Rattle.std.proofs.lemmas.Bool.{cases_Bool, cases_lt, ltb-false, ne_eqb}
use Rattle.std.proofs.lemmas.List.{get_or_append_left, get_or_push}
use Rattle.std.proofs.lemmas.List.Filters.{length-filter_both}
use Rattle.std.proofs.lemmas.List.Sums.{fails_before_first}
use Rattle.std.proofs.lemmas.List.FromFn.{filter_of_map_range_with_len_more}

-- no element passes if there is no position
pub position_none_at : {X : Type 0} (p : X → Bool) (xs : List X) (i : ℕ) (d : X) → position p xs ≡ None → i < length xs → p (get_or xs i d) ≡ false
position_none_at p xs i d none within =
    elim (cases_Bool (ltb (position_or_len p xs) (length xs))) [
      | inl found ↦ absurd (let here : Some (position_or_len p xs) ≡ None = rw found at none in cc)
      | inr missing ↦ fails_before_first p xs i d (let past : length xs ≤ position_or_len p xs = ltb-false _ _ missing in omega arith)
    ]

-- the elements of a filter
pub length-filter-le : {X : Type 0} (p : X → Bool) (xs : List X) → length (filter p xs) ≤ length xs
length-filter-le p xs = let both = length-filter_both p (λ x. not (p x)) (λ _. refl) xs in omega arith

pub list_any-filter : {X : Type 0} (p t : X → Bool) (xs : List X) (i : ℕ) (d : X) → i < length xs → p (get_or xs i d) ≡ true → t (get_or xs i d) ≡ true → list_any t (filter p xs) ≡ true
list_any-filter p t [] i d within kept passes = absurd (omega arith)
list_any-filter p t (x ∷ xs) zero d within kept passes = rw (kept, passes)
list_any-filter p t (x ∷ xs) (suc i) d within kept passes =
    let later = list_any-filter p t xs i d (omega arith) kept passes in
    elim (cases_Bool (p x)) [
      | inl keeps ↦ rw keeps (elim (cases_Bool (t x)) [ inl here ↦ rw here | inr other ↦ rw other later ])
      | inr drops ↦ rw drops later
    ]

map_same : {X : Type 0} (xs : List X) → map (λ x. x) xs ≡ xs
map_same [] = refl
map_same (x ∷ xs) = ap (λ ys. x ∷ ys) (map_same xs)

-- one more number in a filtered range
pub filter-range_more : (p : ℕ → Bool) (n : ℕ) → filter p (range_with_len 0 (n + 1)) ≡ filter p (range_with_len 0 n) ++ cond (p n) (n ∷ []) []
filter-range_more p n = rw (map_same (range_with_len 0 (n + 1)), map_same (range_with_len 0 n)) at (filter_of_map_range_with_len_more p (λ x. x) 0 n n (omega arith))

-- a number that no place of the list holds
pub list_any_missing : (xs : List ℕ) (e : ℕ) → ((k : ℕ) → k < length xs → get_or xs k 0 ≡ e → ⊥) → list_any (λ x. x == e) xs ≡ false
list_any_missing [] e h = refl
list_any_missing (x ∷ xs) e h = rw (ne_eqb x e (h 0 (omega arith)), list_any_missing xs e (λ k b. h (suc k) (omega arith)))

-- what holds of each element, by its number, once one more is pushed
pub each_pushed : {X : Type 0} (P : ℕ → X → Type 0) (xs : List X) (x : X) (n : ℕ) (d : X) → length xs ≡ n → ((e : ℕ) → e < n → P e (get_or xs e d)) → P n x → (e : ℕ) → e < n + 1 → P e (get_or (xs ++ x ∷ []) e d)
each_pushed P xs x n d long before here e within =
    elim (cases_lt e n) [
      | inl earlier ↦ rw (get_or_append_left xs (x ∷ []) d e (omega arith)) (before e earlier)
      | inr last ↦
          let is : e ≡ n = omega arith in
          rw (is, get_or_push xs x d n long) here
    ]
