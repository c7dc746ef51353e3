-- While numbers are left, and there is an order of all, one of those that are left has no other before it.
use Rattle.std.proofs.Common.{◌≡◌, ℕ, zero, suc, ◌<◌, ◌≤◌, ◌==◌, ◌&&◌, ◌||◌, not, Bool, true, false, List, [], ◌∷◌, ◌++◌, length, get_or, Contains, IsPermutation, Some, None, position, ltb, refl, sym, ◌∙◌, ap, subst, inl, inr, arith}
use Rattle.std.specs.List.{IsDistinct, list_any, position_or_len, range_with_len}
use Rattle.std.proofs.lemmas.Bool.{cases_Bool, eqb-false, eqb-true, false_from_ne_true, false≢true, ltb-false, ne_eqb}
use Rattle.std.proofs.lemmas.List.Elements.{Contains-append_cases, Contains-append_right, Contains-get_or}
use Rattle.std.proofs.lemmas.List.Folds.{list_any_at, list_any_none}
use Rattle.std.proofs.lemmas.List.FromFn.{length-range_with_len, get_or-range_with_len}
use Rattle.std.proofs.lemmas.List.Sorted.{IsPermutation-sym, Contains-permutation}
use Rattle.std.proofs.lemmas.List.Sums.{fails_before_first}
use Rattle.std.proofs.lemmas.Map.Keys.{IsDistinct-IsPermutation, IsDistinct-from_apart, apart_from_distinct}
use Rattle.dine_rules.specs.Precedence.{StandsBefore}
use Rattle.dine_states.specs.Orders.{IsOrder, is_behind, is_free}
use Rattle.dine_states.proofs.Orders.{IsBegun, in_range, range_below, same}

-- ---- numbers that differ

eqb_flips : (x y : ℕ) → (x == y) ≡ (y == x)
eqb_flips x y = elim (cases_Bool (x == y)) [
  | inl is ↦ is ∙ sym (subst (λ (z : ℕ). (z == x) ≡ true) (eqb-true x y is) (same x))
  | inr is ↦ is ∙ sym (ne_eqb y x (λ h. eqb-false x y is (sym h)))
]

-- no number is twice in an order of all
places_differ : (n : ℕ) (order : List ℕ) → IsPermutation order (range_with_len 0 n) → (i j x : ℕ) → i < length order → j < length order → get_or order i x ≡ x → get_or order j x ≡ x → i < j → ⊥
places_differ n order all i j x hi hj is_i is_j less =
    let apart = apart_from_distinct ◌==◌ order i j x (IsDistinct-IsPermutation ◌==◌ eqb_flips (range_with_len 0 n) order (IsPermutation-sym order (range_with_len 0 n) all) in_turn) less hj in
    eqb-false (get_or order i x) (get_or order j x) apart (is_i ∙ sym is_j) where
      in_turn : IsDistinct ◌==◌ (range_with_len 0 n)
      in_turn = IsDistinct-from_apart ◌==◌ (range_with_len 0 n) (λ a b d less within.
          let short = length-range_with_len 0 n in
          ne_eqb (get_or (range_with_len 0 n) a d) (get_or (range_with_len 0 n) b d) (λ h. omega (arith, less, h, get_or-range_with_len 0 n a d (omega (arith, less, within, short)), get_or-range_with_len 0 n b d (omega (arith, within, short)))))

-- ---- the first that is left

front_length : (front : List ℕ) (x : ℕ) (rest : List ℕ) (d : ℕ) → (length front < length (front ++ x ∷ rest)) × (get_or (front ++ x ∷ rest) (length front) d ≡ x)
front_length [] x rest d = (omega arith, refl)
front_length (y ∷ front) x rest d = let w = front_length front x rest d in (omega (arith, w.0), w.1)

-- what is at a place of the front is in the front
front_has : (front : List ℕ) (rest : List ℕ) (k d : ℕ) → k < length front → get_or (front ++ rest) k d ≡ get_or front k d
front_has [] rest k d h = absurd (omega arith)
front_has (y ∷ front) rest zero d h = refl
front_has (y ∷ front) rest (suc k) d h = front_has front rest k d (omega arith)

-- what is before x in an order is in its front
is_in_front : (n : ℕ) (order : List ℕ) → IsPermutation order (range_with_len 0 n) → (front : List ℕ) (x : ℕ) (rest : List ℕ) → order ≡ front ++ x ∷ rest → (a : ℕ) → StandsBefore a x order → Contains front a
is_in_front n order all front x rest is a h =
    let there = front_length front x rest x in
    let here = front_length (h.0 ++ a ∷ h.1) x h.2 x in
    let first = front_length h.0 a h.1 a in
    let i = length front in
    let j = length (h.0 ++ a ∷ h.1) in
    let at_i = ap (λ (l : List ℕ). get_or l i x) is ∙ there.1 in
    let at_j = ap (λ (l : List ℕ). get_or l j x) h.3 ∙ here.1 in
    let in_i : i < length order = omega (arith, there.0, ap length is) in
    let in_j : j < length order = omega (arith, here.0, ap length h.3) in
    let not_less = places_differ n order all i j x in_i in_j at_i at_j in
    let not_more = places_differ n order all j i x in_j in_i at_j at_i in
    let k = length h.0 in
    let before : k < i = by_places i j k not_less not_more first.0 in
    let at_k = ap (λ (l : List ℕ). get_or l k a) h.3 ∙ front_has (h.0 ++ a ∷ h.1) (x ∷ h.2) k a first.0 ∙ first.1 in
    (k, before, sym (front_has front (x ∷ rest) k a before) ∙ sym (ap (λ (l : List ℕ). get_or l k a) is) ∙ at_k) where
      by_places : (i j k : ℕ) → (i < j → ⊥) → (j < i → ⊥) → k < j → k < i
      by_places i j k less more h = omega (arith, less, more, h)

record IsFirstLeft (order left : List ℕ) : Type 0 where
  pub front : List ℕ
  pub x : ℕ
  pub rest : List ℕ
  pub is : order ≡ front ++ x ∷ rest
  pub is_left : Contains left x
  pub none : (a : ℕ) → Contains front a → Contains left a → ⊥

or_second : (a b : Bool) → a ≡ false → (a || b) ≡ true → b ≡ true
or_second true b fails h = absurd (false≢true (sym fails))
or_second false b fails h = h

-- where a test passes at all it passes at some place
found_at : (p : ℕ → Bool) (xs : List ℕ) (d : ℕ) → list_any p xs ≡ true → (k : ℕ) × (k < length xs) × (p (get_or xs k d) ≡ true)
found_at p [] d h = absurd (false≢true h)
found_at p (x ∷ xs) d h = elim (cases_Bool (p x)) [
  | inl passes ↦ (0, omega arith, passes)
  | inr fails ↦ let w = found_at p xs d (or_second (p x) (list_any p xs) fails h) in (suc w.0, omega (arith, w.1), w.2)
]

contains_from : (left : List ℕ) (y : ℕ) → list_any (λ z. y == z) left ≡ true → Contains left y
contains_from left y h = let w = found_at (λ z. y == z) left y h in (w.0, w.1, sym (eqb-true y (get_or left w.0 y) w.2))

first_left : (order left : List ℕ) (h : ℕ) → Contains order h → Contains left h → IsFirstLeft order left
first_left [] left h (k, within, is) is_left = absurd (omega arith)
first_left (y ∷ ys) left h there is_left = elim (cases_Bool (list_any (λ z. y == z) left)) [
  | inl found ↦ record { front = []; x = y; rest = ys; is = refl; is_left = contains_from left y found; none = λ a in_none l. absurd (omega (arith, in_none.1)) }
  | inr missing ↦
      let not_left : Contains left y → ⊥ = λ l. false≢true (sym missing ∙ list_any_at (λ z. y == z) left l.0 y l.1 (ap (λ z. y == z) l.2 ∙ same y)) in
      let w = first_left ys left h (later not_left) is_left in
      record {
        front = y ∷ w.front;
        x = w.x;
        rest = w.rest;
        is = ap (λ (l : List ℕ). y ∷ l) w.is;
        is_left = w.is_left;
        none = λ a in_front l. elim (Contains-append_cases (y ∷ []) w.front a in_front) [
          | inl only ↦ not_left (subst (Contains left) (sym (is_only a y only)) l)
          | inr more ↦ w.none a more l
        ];
      }
] where
  is_only : (b s : ℕ) → Contains (s ∷ []) b → s ≡ b
  is_only b s (zero, g, is) = is
  is_only b s (suc k, g, is) = absurd (omega arith)

  later : (Contains left y → ⊥) → Contains ys h
  later not_left = elim (Contains-append_cases (y ∷ []) ys h there) [
    | inl only ↦ absurd (not_left (subst (Contains left) (sym (is_only h y only)) is_left))
    | inr more ↦ more
  ]

-- ---- none is free

pub none_passes : (p : ℕ → Bool) (xs : List ℕ) (i d : ℕ) → position p xs ≡ None → i < length xs → p (get_or xs i d) ≡ false
none_passes p xs i d none within = elim (cases_Bool (ltb (position_or_len p xs) (length xs))) [
  | inl found ↦ absurd (let here : Some (position_or_len p xs) ≡ None = rw found at none in cc)
  | inr missing ↦ fails_before_first p xs i d (let past : length xs ≤ position_or_len p xs = ltb-false _ _ missing in omega arith)
]

and_first : (a b : Bool) → (a && b) ≡ true → a ≡ true
and_first true b h = refl
and_first false b h = h

and_second : (a b : Bool) → (a && b) ≡ true → b ≡ true
and_second true b h = h
and_second false b h = absurd (false≢true h)

-- the first that is left in an order of all is free
first_is_free : (n : ℕ) (pairs : List (ℕ × ℕ)) (order left : List ℕ) → ((a : ℕ) → Contains left a → a < n) → IsOrder n pairs order → (w : IsFirstLeft order left) → is_free pairs left w.x ≡ true
first_is_free n pairs order left below is w =
    ap not (list_any_none (is_behind left w.x) pairs (λ k d h. false_from_ne_true (is_behind left w.x (get_or pairs k d)) (λ behind. blocked k h d behind))) where
      blocked : (k : ℕ) → k < length pairs → (d : ℕ × ℕ) → is_behind left w.x (get_or pairs k d) ≡ true → ⊥
      blocked k h d behind =
          let pair = get_or pairs k d in
          let second = eqb-true pair.1 w.x (and_first (pair.1 == w.x) _ behind) in
          let found = found_at (λ y. y == pair.0) left pair.0 (and_second (pair.1 == w.x) _ behind) in
          let is_left : Contains left pair.0 = (found.0, found.1, eqb-true (get_or left found.0 pair.0) pair.0 found.2) in
          let here = subst (λ (x : ℕ). Contains pairs (pair.0, x)) second (Contains-get_or pairs k d h) in
          w.none pair.0 (is_in_front n order is.each_once w.front w.x w.rest w.is pair.0 (is.first_before pair.0 w.x here (below pair.0 is_left) (below w.x w.is_left))) is_left

pub stuck_has_no_order : (n : ℕ) (pairs : List (ℕ × ℕ)) (done left : List ℕ) → 0 < length left → position (is_free pairs left) left ≡ None → IsBegun n pairs done left → (order : List ℕ) → IsOrder n pairs order → ⊥
stuck_has_no_order n pairs done left some none begun order is =
    let h = get_or left 0 0 in
    let is_left = Contains-get_or left 0 0 some in
    let below = λ (a : ℕ) (l : Contains left a). range_below n a (Contains-permutation (done ++ left) (range_with_len 0 n) a (IsPermutation-sym (range_with_len 0 n) (done ++ left) begun.each_once) (Contains-append_right done left a l)) in
    let there = Contains-permutation (range_with_len 0 n) order h (IsPermutation-sym order (range_with_len 0 n) is.each_once) (in_range n h (below h is_left)) in
    let w = first_left order left h there is_left in
    let free = first_is_free n pairs order left below is w in
    let fails = none_passes (is_free pairs left) left w.is_left.0 w.x none w.is_left.1 in
    false≢true (sym fails ∙ ap (is_free pairs left) w.is_left.2 ∙ free)
