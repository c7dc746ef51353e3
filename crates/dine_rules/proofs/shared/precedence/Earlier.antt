-- In an order of all sites, each once: if each site with some property has one before it that has it too, no site has
-- the property.
use Rattle.std.proofs.Common.{◌≡◌, ℕ, Bool, true, false, eqb, List, [], ◌∷◌, get_or, IsPermutation, refl, sym, ◌∙◌, ap, subst, inl, inr, arith}
use Rattle.std.specs.List.{range_with_len, IsDistinct, AllByRecursion}
use Rattle.std.proofs.lemmas.Bool.{false≢true, false_from_ne_true, ne_eqb, eqb-true, eqb-false, eq-eqb, cases_Bool}
use Rattle.std.proofs.lemmas.List.FromFn.{length-range_with_len, get_or-range_with_len}
use Rattle.std.proofs.lemmas.List.Sorted.{IsPermutation-sym}
use Rattle.std.proofs.lemmas.Map.Keys.{IsDistinct-from_apart, IsDistinct-IsPermutation, IsDistinct-head, IsDistinct-tail}
use Rattle.dine_rules.proofs.shared.precedence.Orders.{In, Before}

-- ---- each number once

-- two numbers are compared alike both ways
flips : (a b : ℕ) → eqb a b ≡ eqb b a
flips a b = elim (cases_Bool (eqb b a)) [
  | inl same ↦ eq-eqb a b (sym (eqb-true b a same)) ∙ sym same
  | inr other ↦ ne_eqb a b (λ same. eqb-false b a other (sym same)) ∙ sym other
]

-- a range has each number once
range_distinct : (n : ℕ) → IsDistinct eqb (range_with_len 0 n)
range_distinct n = IsDistinct-from_apart eqb (range_with_len 0 n) (λ i j d before within. ne_eqb (get_or (range_with_len 0 n) i d) (get_or (range_with_len 0 n) j d)
    (λ same. omega (arith, length-range_with_len 0 n, get_or-range_with_len 0 n i d (omega (arith, length-range_with_len 0 n)), get_or-range_with_len 0 n j d (omega (arith, length-range_with_len 0 n)))))

-- and so has each order of it
pub order_distinct : (n : ℕ) (order : List ℕ) → IsPermutation order (range_with_len 0 n) → IsDistinct eqb order
order_distinct n order all = IsDistinct-IsPermutation eqb flips (range_with_len 0 n) order (IsPermutation-sym order (range_with_len 0 n) all) (range_distinct n)

-- what holds of all holds of an element
all_in : (P : ℕ → Type 0) (x : ℕ) (xs : List ℕ) → AllByRecursion P xs → In x xs → P x
all_in P x [] all h = absurd h
all_in P x (y ∷ xs) all (inl same) = subst P same all.0
all_in P x (y ∷ xs) all (inr h) = all_in P x xs all.1 h

-- the first stands nowhere else
not_again : (x : ℕ) (xs : List ℕ) → IsDistinct eqb (x ∷ xs) → In x xs → ⊥
not_again x xs distinct h = eqb-false x x (all_in (λ y. eqb x y ≡ false) x xs (IsDistinct-head eqb x xs distinct) h) refl

-- ---- who stands before whom

-- the later one is in the list
later_in : (a b : ℕ) (xs : List ℕ) → Before a b xs → In b xs
later_in a b [] h = absurd h
later_in a b (x ∷ xs) (inl w) = inr w.1
later_in a b (x ∷ xs) (inr h) = inr (later_in a b xs h)

-- and behind the first
later_behind : (a b x : ℕ) (xs : List ℕ) → Before a b (x ∷ xs) → In b xs
later_behind a b x xs (inl w) = w.1
later_behind a b x xs (inr h) = later_in a b xs h

-- each that passes the test has one before it that passes too
abbrev pub HasEarlier : (ℕ → Bool) → List ℕ → Type 0
HasEarlier test xs = (b : ℕ) → test b ≡ true → (a : ℕ) × (test a ≡ true) × Before a b xs

-- so the first fails
first_fails : (test : ℕ → Bool) (x : ℕ) (xs : List ℕ) → IsDistinct eqb (x ∷ xs) → HasEarlier test (x ∷ xs) → test x ≡ false
first_fails test x xs distinct earlier = false_from_ne_true (test x) (λ passes.
    let w = earlier x passes in
    not_again x xs distinct (later_behind w.0 x x xs w.2))

-- the same of those behind it
earlier_behind : (test : ℕ → Bool) (x : ℕ) (xs : List ℕ) → test x ≡ false → HasEarlier test (x ∷ xs) → HasEarlier test xs
earlier_behind test x xs fails earlier b passes =
    let w = earlier b passes in (
      w.0,
      w.1,
      elim w.2 [
        | inl first ↦ absurd (false≢true (sym fails ∙ ap test first.0 ∙ w.1))
        | inr behind ↦ behind
      ],
    )

-- and so all fail
pub nobody_passes : (test : ℕ → Bool) (xs : List ℕ) → IsDistinct eqb xs → HasEarlier test xs → (x : ℕ) → In x xs → test x ≡ false
nobody_passes test [] distinct earlier x h = absurd h
nobody_passes test (y ∷ xs) distinct earlier x (inl same) = ap test (sym same) ∙ first_fails test y xs distinct earlier
nobody_passes test (y ∷ xs) distinct earlier x (inr h) = nobody_passes test xs (IsDistinct-tail eqb y xs distinct) (earlier_behind test y xs (first_fails test y xs distinct earlier) earlier) x h
