-- Lists of sites in an order: which of two sites comes first, and what stays so when one goes to the end.
use Rattle.std.proofs.Common.{◌≡◌, ◌≢◌, ◌⊎◌, ℕ, zero, suc, ◌+◌, ◌<◌, ◌≤◌, List, [], ◌∷◌, ◌++◌, length, get_or, reverse, Contains, IsPermutation, refl, sym, ◌∙◌, ap, subst, inl, inr, arith, zero-add}
use Rattle.std.specs.List.{range_with_len}
use Rattle.std.proofs.lemmas.Bool.{cases_eq}
use mathlib.Core.List.{reverse-cons}
use Rattle.std.proofs.lemmas.List.FromFn.{length-range_with_len, get_or-range_with_len}
use Rattle.std.proofs.lemmas.List.Sorted.{IsPermutation-trans, IsPermutation-sym, IsPermutation-middle, IsPermutation-to_front, IsPermutation-reverse, Contains-permutation}
use Rattle.dine_rules.specs.Precedence.{StandsBefore}

-- the number is in the list, and one stands before another, by recursion
abbrev pub In : ℕ → List ℕ → Type 0
In x [] = ⊥
In x (y ∷ ys) = (y ≡ x) ⊎ In x ys

abbrev pub Before : ℕ → ℕ → List ℕ → Type 0
Before a b [] = ⊥
Before a b (y ∷ ys) = ((y ≡ a) × In b ys) ⊎ Before a b ys

-- ---- to and from the definitions by splits

pub in_middle : (front : List ℕ) (x : ℕ) (rest : List ℕ) → In x (front ++ x ∷ rest)
in_middle [] x rest = inl refl
in_middle (y ∷ front) x rest = inr (in_middle front x rest)

pub in_split : (x : ℕ) (xs : List ℕ) → In x xs → (front rest : List ℕ) × (xs ≡ front ++ x ∷ rest)
in_split x [] h = absurd h
in_split x (y ∷ ys) (inl same) = ([], ys, ap (λ (z : ℕ). z ∷ ys) same)
in_split x (y ∷ ys) (inr h) = let w = in_split x ys h in (y ∷ w.0, w.1, ap (λ (l : List ℕ). y ∷ l) w.2)

before_middle : (a b : ℕ) (front middle rest : List ℕ) → Before a b (front ++ a ∷ middle ++ b ∷ rest)
before_middle a b [] middle rest = inl (refl, in_middle middle b rest)
before_middle a b (y ∷ front) middle rest = inr (before_middle a b front middle rest)

pub before_from : (a b : ℕ) (xs : List ℕ) → StandsBefore a b xs → Before a b xs
before_from a b xs h = subst (Before a b) (sym h.3) (before_middle a b h.0 h.1 h.2)

pub before_to : (a b : ℕ) (xs : List ℕ) → Before a b xs → StandsBefore a b xs
before_to a b [] h = absurd h
before_to a b (y ∷ ys) (inl w) = let v = in_split b ys w.1 in ([], v.0, v.1, ap (λ (z : ℕ). z ∷ ys) w.0 ∙ ap (λ (l : List ℕ). a ∷ l) v.2)
before_to a b (y ∷ ys) (inr h) = let v = before_to a b ys h in (y ∷ v.0, v.1, v.2, ap (λ (l : List ℕ). y ∷ l) v.3)

-- ---- one is taken out, and one goes to the end

in_without : (x s : ℕ) (front rest : List ℕ) → x ≢ s → In x (front ++ s ∷ rest) → In x (front ++ rest)
in_without x s [] rest other (inl same) = absurd (other (sym same))
in_without x s [] rest other (inr h) = h
in_without x s (y ∷ front) rest other (inl same) = inl same
in_without x s (y ∷ front) rest other (inr h) = inr (in_without x s front rest other h)

before_without : (a b s : ℕ) (front rest : List ℕ) → a ≢ s → b ≢ s → Before a b (front ++ s ∷ rest) → Before a b (front ++ rest)
before_without a b s [] rest left right (inl w) = absurd (left (sym w.0))
before_without a b s [] rest left right (inr h) = h
before_without a b s (y ∷ front) rest left right (inl w) = inl (w.0, in_without b s front rest right w.1)
before_without a b s (y ∷ front) rest left right (inr h) = inr (before_without a b s front rest left right h)

in_push : (x s : ℕ) (xs : List ℕ) → In x xs → In x (xs ++ s ∷ [])
in_push x s [] h = absurd h
in_push x s (y ∷ ys) (inl same) = inl same
in_push x s (y ∷ ys) (inr h) = inr (in_push x s ys h)

before_push : (a b s : ℕ) (xs : List ℕ) → Before a b xs → Before a b (xs ++ s ∷ [])
before_push a b s [] h = absurd h
before_push a b s (y ∷ ys) (inl w) = inl (w.0, in_push b s ys w.1)
before_push a b s (y ∷ ys) (inr h) = inr (before_push a b s ys h)

-- all stand before the last
before_last : (x s : ℕ) (xs : List ℕ) → In x xs → Before x s (xs ++ s ∷ [])
before_last x s [] h = absurd h
before_last x s (y ∷ ys) (inl same) = inl (same, in_middle ys s [])
before_last x s (y ∷ ys) (inr h) = inr (before_last x s ys h)

-- ---- a site goes to the end of an order of all sites

pub in_order : (n s : ℕ) (order : List ℕ) → IsPermutation order (range_with_len 0 n) → s < n → In s order
in_order n s order all within = by_index order has.0 has.1 has.2 where
  has : Contains order s
  has = Contains-permutation (range_with_len 0 n) order s (IsPermutation-sym order (range_with_len 0 n) all)
      (s, omega (arith, length-range_with_len 0 n), get_or-range_with_len 0 n s s within ∙ zero-add s)

  by_index : (xs : List ℕ) (k : ℕ) → k < length xs → get_or xs k s ≡ s → In s xs
  by_index [] k h is = absurd (omega arith)
  by_index (x ∷ xs) zero h is = inl is
  by_index (x ∷ xs) (suc k) h is = inr (by_index xs k (omega arith) is)

-- an order with one site moved to the end
pub record IsMovedLast (s : ℕ) (old new : List ℕ) : Type 0 where
  pub same : IsPermutation new old
  pub others : (a b : ℕ) → a ≢ s → b ≢ s → Before a b old → Before a b new
  pub last : (a : ℕ) → a ≢ s → In a old → Before a s new

pub moved_last : (s : ℕ) (order : List ℕ) → In s order → (new : List ℕ) × IsMovedLast s order new
moved_last s order h =
    let w = in_split s order h in
    let left : List ℕ = w.0 ++ w.1 in (
      left ++ s ∷ [],
      record {
        same = subst (IsPermutation (left ++ s ∷ [])) (sym w.2) (IsPermutation-trans (left ++ s ∷ []) (s ∷ left) (w.0 ++ s ∷ w.1) (IsPermutation-to_front left s) (IsPermutation-sym (w.0 ++ s ∷ w.1) (s ∷ left) (IsPermutation-middle w.0 s w.1)));
        others = λ a b left_of right_of before. before_push a b s left (before_without a b s w.0 w.1 left_of right_of (subst (Before a b) w.2 before));
        last = λ a other is_in. before_last a s left (in_without a s w.0 w.1 other (subst (In a) w.2 is_in));
      },
    )

-- ---- the falling order

in_range : (x a n : ℕ) → a ≤ x → x < a + n → In x (range_with_len a n)
in_range x a zero h k = absurd (omega arith)
in_range x a (suc n) h k = elim (cases_eq a x) [
  | inl same ↦ inl same
  | inr other ↦ inr (in_range x (a + 1) n (omega arith) (omega arith))
]

before_range : (low high a n : ℕ) → a ≤ low → low < high → high < a + n → Before low high (range_with_len a n)
before_range low high a zero h k l = absurd (omega arith)
before_range low high a (suc n) h k l = elim (cases_eq a low) [
  | inl same ↦ inl (same, in_range high (a + 1) n (omega arith) (omega arith))
  | inr other ↦ inr (before_range low high (a + 1) n (omega arith) k (omega arith))
]

in_reverse : (x : ℕ) (xs : List ℕ) → In x xs → In x (reverse xs)
in_reverse x [] h = absurd h
in_reverse x (y ∷ ys) (inl same) = subst (In x) (sym (reverse-cons y ys)) (subst (λ (z : ℕ). In x (reverse ys ++ z ∷ [])) (sym same) (in_middle (reverse ys) x []))
in_reverse x (y ∷ ys) (inr h) = subst (In x) (sym (reverse-cons y ys)) (in_push x y (reverse ys) (in_reverse x ys h))

before_reverse : (a b : ℕ) (xs : List ℕ) → Before a b xs → Before b a (reverse xs)
before_reverse a b [] h = absurd h
before_reverse a b (y ∷ ys) (inl w) = subst (Before b a) (sym (reverse-cons y ys)) (subst (λ (z : ℕ). Before b a (reverse ys ++ z ∷ [])) (sym w.0) (before_last b a (reverse ys) (in_reverse b ys w.1)))
before_reverse a b (y ∷ ys) (inr h) = subst (Before b a) (sym (reverse-cons y ys)) (before_push b a y (reverse ys) (before_reverse a b ys h))

-- all sites, the highest first
abbrev pub falling : ℕ → List ℕ
falling n = reverse (range_with_len 0 n)

pub falling_all : (n : ℕ) → IsPermutation (falling n) (range_with_len 0 n)
falling_all n = IsPermutation-sym (range_with_len 0 n) (falling n) (IsPermutation-reverse (range_with_len 0 n))

pub falling_before : (n low high : ℕ) → low < high → high < n → Before high low (falling n)
falling_before n low high ordered within = before_reverse low high (range_with_len 0 n) (before_range low high 0 n (omega arith) ordered (omega arith))
