-- Sums over lists: one term changes, terms are bounded, and two sums change their order.
use Rattle.std.proofs.Common.{◌≡◌, ℕ, zero, suc, ◌+◌, ◌*◌, ◌<◌, ◌≤◌, Bool, cond, ◌||◌, true, false, ◌==◌, List, [], ◌∷◌, filter, length, map, get_or, slice_set, sum, sum_by, refl, ◌∙◌, ap, inl, inr, arith}
use Rattle.std.specs.List.{range_with_len}
use Rattle.std.proofs.lemmas.Bool.{cases_Bool, cond-true, cond-false, eqb-true, ne_eqb}
use Rattle.std.proofs.lemmas.List.Sums.{sum-map, sum_by-cons, sum_by-set, sum_by-le-sum_by}

-- one term grows by one
pub sum-one_more : {X : Type 0} (f : X → ℕ) (xs : List X) (i : ℕ) (y d : X) → i < length xs → f y ≡ f (get_or xs i d) + 1 → sum (map f (slice_set xs i y)) ≡ sum (map f xs) + 1
sum-one_more f xs i y d within more = omega (arith, sum-map f (slice_set xs i y), sum-map f xs, sum_by-set f xs i y d within)

-- all terms are none
pub sum-none : {X Y : Type 0} (f : Y → ℕ) (g : X → Y) (xs : List X) → ((x : X) → f (g x) ≡ 0) → sum (map f (map g xs)) ≡ 0
sum-none f g xs none = sum-map f (map g xs) ∙ by_terms xs where
  by_terms : (xs : List _) → sum_by f (map g xs) ≡ 0
  by_terms [] = refl
  by_terms (x ∷ xs) = omega (arith, sum_by-cons f (g x) (map g xs), none x, by_terms xs)

-- terms that are each within the other list's term at the same position
sum_by-within : {X Y : Type 0} (f : X → ℕ) (g : Y → ℕ) (xs : List X) (ys : List Y) (d : X) (e : Y) → length xs ≡ length ys → ((i : ℕ) → i < length xs → f (get_or xs i d) ≤ g (get_or ys i e)) → sum_by f xs ≤ sum_by g ys
sum_by-within f g [] ys d e same within = omega arith
sum_by-within f g (x ∷ xs) [] d e same within = absurd (omega arith)
sum_by-within f g (x ∷ xs) (y ∷ ys) d e same within =
    omega (arith, sum_by-cons f x xs, sum_by-cons g y ys, within 0 (omega arith), sum_by-within f g xs ys d e (omega arith) (λ i h. within (suc i) (omega arith)))

pub sum-within : {X Y : Type 0} (f : X → ℕ) (g : Y → ℕ) (xs : List X) (ys : List Y) (d : X) (e : Y) → length xs ≡ length ys → ((i : ℕ) → i < length xs → f (get_or xs i d) ≤ g (get_or ys i e)) → sum (map f xs) ≤ sum (map g ys)
sum-within f g xs ys d e same within = omega (arith, sum-map f xs, sum-map g ys, sum_by-within f g xs ys d e same within)

-- a sum of sums, and of multiples
pub sum_by-add : {X : Type 0} (f g : X → ℕ) (xs : List X) → sum_by (λ x. f x + g x) xs ≡ sum_by f xs + sum_by g xs
sum_by-add f g [] = refl
sum_by-add f g (x ∷ xs) = omega (arith, sum_by-cons (λ x. f x + g x) x xs, sum_by-cons f x xs, sum_by-cons g x xs, sum_by-add f g xs)

pub sum_by-times : {X : Type 0} (k : ℕ) (f : X → ℕ) (xs : List X) → sum_by (λ x. k * f x) xs ≡ k * sum_by f xs
sum_by-times k f [] = omega arith
sum_by-times k f (x ∷ xs) = omega (arith, sum_by-cons (λ x. k * f x) x xs, ap (λ (n : ℕ). k * n) (sum_by-cons f x xs), sum_by-times k f xs)

-- a filtered list with one element more
sum_by-filter_cons : {X : Type 0} (g : X → ℕ) (test : X → Bool) (x : X) (xs : List X) → sum_by g (filter test (x ∷ xs)) ≡ cond (test x) (g x) 0 + sum_by g (filter test xs)
sum_by-filter_cons g test x xs = elim (cases_Bool (test x)) [
  | inl passes ↦ omega (arith, ap (sum_by g) (cond-true (test x) (x ∷ filter test xs) (filter test xs) passes), sum_by-cons g x (filter test xs), cond-true (test x) (g x) 0 passes)
  | inr fails ↦ omega (arith, ap (sum_by g) (cond-false (test x) (x ∷ filter test xs) (filter test xs) fails), cond-false (test x) (g x) 0 fails)
]

sum_by-zero : {X : Type 0} (xs : List X) → sum_by (λ x. 0) xs ≡ 0
sum_by-zero [] = refl
sum_by-zero (x ∷ xs) = omega (arith, sum_by-cons (λ x. 0) x xs, sum_by-zero xs)

-- Two sums in the other order: what each x takes of its own ys is within what each y gives to its xs.
pub sum_by-swap : {X Y : Type 0} (g : Y → ℕ) (test : X → Y → Bool) (xs : List X) (ys : List Y) → sum_by (λ x. sum_by g (filter (test x) ys)) xs ≤ sum_by (λ y. sum_by (λ x. cond (test x y) (g y) 0) xs) ys
sum_by-swap g test xs [] = omega (arith, sum_by-zero xs)
sum_by-swap g test xs (y ∷ ys) = omega (
  arith,
  sum_by-le-sum_by (λ x. sum_by g (filter (test x) (y ∷ ys))) (λ x. cond (test x y) (g y) 0 + sum_by g (filter (test x) ys)) xs (λ x. omega (arith, sum_by-filter_cons g (test x) y ys)),
  sum_by-add (λ x. cond (test x y) (g y) 0) (λ x. sum_by g (filter (test x) ys)) xs,
  sum_by-cons (λ y. sum_by (λ x. cond (test x y) (g y) 0) xs) y ys,
  sum_by-swap g test xs ys,
)

-- a number stands in a range at most once
not_below : (k m a n : ℕ) → k < a → sum_by (λ s. cond (k == s) m 0) (range_with_len a n) ≡ 0
not_below k m a zero h = refl
not_below k m a (suc n) h = omega (arith, sum_by-cons (λ s. cond (k == s) m 0) a (range_with_len (a + 1) n), cond-false (k == a) m 0 (ne_eqb k a (λ same. omega arith)), not_below k m (a + 1) n (omega arith))

at_most_once : (k m a n : ℕ) → sum_by (λ s. cond (k == s) m 0) (range_with_len a n) ≤ m
at_most_once k m a zero = omega arith
at_most_once k m a (suc n) = elim (cases_Bool (k == a)) [
  | inl same ↦ omega (arith, sum_by-cons (λ s. cond (k == s) m 0) a (range_with_len (a + 1) n), cond-true (k == a) m 0 same, not_below k m (a + 1) n (omega (arith, eqb-true k a same)))
  | inr other ↦ omega (arith, sum_by-cons (λ s. cond (k == s) m 0) a (range_with_len (a + 1) n), cond-false (k == a) m 0 other, at_most_once k m (a + 1) n)
]

either_within : (a b : Bool) (m : ℕ) → cond (a || b) m 0 ≤ cond a m 0 + cond b m 0
either_within true b m = omega arith
either_within false b m = omega arith

-- of two numbers each stands in a range at most once
pub at_most_twice : (k l m a n : ℕ) → sum_by (λ s. cond ((k == s) || (l == s)) m 0) (range_with_len a n) ≤ 2 * m
at_most_twice k l m a n = omega (
  arith,
  sum_by-le-sum_by (λ s. cond ((k == s) || (l == s)) m 0) (λ s. cond (k == s) m 0 + cond (l == s) m 0) (range_with_len a n) (λ s. either_within (k == s) (l == s) m),
  sum_by-add (λ s. cond (k == s) m 0) (λ s. cond (l == s) m 0) (range_with_len a n),
  at_most_once k m a n,
  at_most_once l m a n,
)
