-- The two places of an edge: each end finds the other, and its own place, by the edge.
use Rattle.std.proofs.Common.{◌≡◌, ◌≢◌, ℕ, zero, suc, ◌+◌, ◌<◌, ◌≤◌, Bool, true, false, not, ◌==◌, nat_lt, List, [], ◌∷◌, filter, length, get_or, Some, None, unwrap_or, Option, ◌⊎◌, refl, sym, ◌∙◌, ap, subst, inl, inr, arith}
use Rattle.std.specs.List.{range_with_len, position, position_or_len}
use Rattle.std.proofs.lemmas.Bool.{cases_Bool, cases_eq, cond-true, cond-false, lt-ltb, eq-eqb, ne_eqb, or_left, or_right, not_from_true, not_from_false, false≢true}
use Rattle.dine_graph.specs.Plan.{SeenPlan, IsPlan, site_count, edge_count, edges_of, lo_of, hi_of, is_end, other_of}
use Rattle.dine_rules.specs.Local.{edge_at, neighbour_at}
use Rattle.dine_rules.specs.World.{place_of}
use Rattle.dine_rules.specs.Streams.{is_lower_at}
use Rattle.dine_rules.proofs.shared.one_place.Placed.{filter-at, placed}

-- the first element that passes is where it is
position_or_len-at : (p : ℕ → Bool) (xs : List ℕ) (k d : ℕ) → k < length xs → p (get_or xs k d) ≡ true → ((j : ℕ) → j < k → p (get_or xs j d) ≡ false) → position_or_len p xs ≡ k
position_or_len-at p [] k d l here before = absurd (omega arith)
position_or_len-at p (x ∷ xs) zero d l here before = cond-false {A = ℕ} (not (p x)) (1 + position_or_len p xs) 0 (not_from_true (p x) here)
position_or_len-at p (x ∷ xs) (suc k) d l here before =
    let rest : position_or_len p xs ≡ k = position_or_len-at p xs k d (omega arith) here (λ j h. before (suc j) (omega arith)) in
    let one_more : 1 + position_or_len p xs ≡ suc k = omega arith in
    cond-true {A = ℕ} (not (p x)) (1 + position_or_len p xs) 0 (not_from_false (p x) (before 0 (omega arith))) ∙ one_more

position-at : (p : ℕ → Bool) (xs : List ℕ) (k d : ℕ) → k < length xs → p (get_or xs k d) ≡ true → ((j : ℕ) → j < k → p (get_or xs j d) ≡ false) → position p xs ≡ Some k
position-at p xs k d l here before =
    let at : position_or_len p xs ≡ k = position_or_len-at p xs k d l here before in
    cond-true (nat_lt (position_or_len p xs) (length xs)) (Some (position_or_len p xs)) None (lt-ltb (position_or_len p xs) (length xs) (omega arith))
    ∙ ap (λ (n : ℕ). Some n) at

-- ---- the filter of a range

range_from : (a n j : ℕ) → j < length (range_with_len a n) → a ≤ get_or (range_with_len a n) j 0
range_from a zero j h = absurd (omega arith)
range_from a (suc n) zero h = omega arith
range_from a (suc n) (suc j) h = omega (arith, range_from (a + 1) n j (omega arith))

-- each number stands before larger ones
abbrev IsAscending : List ℕ → Type 0
IsAscending l = (i j : ℕ) → i < j → j < length l → get_or l i 0 < get_or l j 0

ascending_cons : (a : ℕ) (l : List ℕ) → ((j : ℕ) → j < length l → a < get_or l j 0) → IsAscending l → IsAscending (a ∷ l)
ascending_cons a l above rest i zero h k = absurd (omega arith)
ascending_cons a l above rest zero (suc j) h k = above j (omega arith)
ascending_cons a l above rest (suc i) (suc j) h k = rest i j (omega arith) (omega arith)

filter-ascending : (test : ℕ → Bool) (a n : ℕ) → IsAscending (filter test (range_with_len a n))
filter-ascending test a zero = λ i j h k. absurd (omega arith)
filter-ascending test a (suc n) =
    let rest : IsAscending (filter test (range_with_len (a + 1) n)) = filter-ascending test (a + 1) n in
    elim (cases_Bool (test a)) [
      | inl passes ↦ subst IsAscending (sym (cond-true (test a) (a ∷ filter test (range_with_len (a + 1) n)) (filter test (range_with_len (a + 1) n)) passes))
          (ascending_cons a (filter test (range_with_len (a + 1) n)) (λ j h. (filter-at test (λ x. a < x) (range_with_len (a + 1) n) 0 (λ k l. omega (arith, range_from (a + 1) n k l)) j h).0) rest)
      | inr fails ↦ subst IsAscending (sym (cond-false (test a) (a ∷ filter test (range_with_len (a + 1) n)) (filter test (range_with_len (a + 1) n)) fails)) rest
    ]

-- the number stands somewhere in the list
record Has (l : List ℕ) (x : ℕ) : Type 0 where
  at : ℕ
  within : at < length l
  is : get_or l at 0 ≡ x

has_later : (a x : ℕ) (l : List ℕ) → Has l x → Has (a ∷ l) x
has_later a x l h = record { at = suc h.at; within = omega (arith, h.within); is = h.is }

filter-has : (test : ℕ → Bool) (a n x : ℕ) → a ≤ x → x < a + n → test x ≡ true → Has (filter test (range_with_len a n)) x
filter-has test a zero x low high passes = absurd (omega arith)
filter-has test a (suc n) x low high passes =
    let rest : a + 1 ≤ x → Has (filter test (range_with_len (a + 1) n)) x = λ l. filter-has test (a + 1) n x l (omega arith) passes in
    elim (cases_Bool (test a)) [
      | inl first ↦ subst (λ (l : List ℕ). Has l x) (sym (cond-true (test a) (a ∷ filter test (range_with_len (a + 1) n)) (filter test (range_with_len (a + 1) n)) first)) (elim (cases_eq a x) [
        | inl same ↦ record { at = 0; within = omega arith; is = same }
        | inr other ↦ has_later a x (filter test (range_with_len (a + 1) n)) (rest (omega arith))
      ])
      | inr fails ↦
          let differs : a ≢ x = λ same. false≢true (sym fails ∙ ap test same ∙ passes) in
          subst (λ (l : List ℕ). Has l x) (sym (cond-false (test a) (a ∷ filter test (range_with_len (a + 1) n)) (filter test (range_with_len (a + 1) n)) fails)) (rest (omega arith))
    ]

-- ---- places by their edges

pub place_of-edge_at : (plan : SeenPlan) (s i : ℕ) → i < length (edges_of plan s) → place_of plan s (edge_at plan s i) ≡ i
place_of-edge_at plan s i h = ap (λ (o : Option ℕ). unwrap_or o 0)
    (position-at (λ e. e == edge_at plan s i) (edges_of plan s) i 0 h (eq-eqb (edge_at plan s i) (edge_at plan s i) refl)
    (λ j l. ne_eqb (get_or (edges_of plan s) j 0) (edge_at plan s i) (λ same. omega (arith, filter-ascending (is_end plan s) 0 (edge_count plan) j i l h))))

-- an edge of the site stands at the place that it is found at
pub edge_at-place_of : (plan : SeenPlan) (s e : ℕ) → e < edge_count plan → is_end plan s e ≡ true → (place_of plan s e < length (edges_of plan s)) × (edge_at plan s (place_of plan s e) ≡ e)
edge_at-place_of plan s e within is =
    let w : Has (edges_of plan s) e = filter-has (is_end plan s) 0 (edge_count plan) e (omega arith) (omega arith) is in
    let at : place_of plan s e ≡ w.at = ap (λ (x : ℕ). place_of plan s x) (sym w.is) ∙ place_of-edge_at plan s w.at w.within in
    (omega (arith, w.within), ap (λ (k : ℕ). edge_at plan s k) at ∙ w.is)

-- what is at the other end of a place: a site, with the same edge at a place of its own, whose other end is this site
pub record IsAcross (plan : SeenPlan) (s i other place : ℕ) : Type 0 where
  pub is_site : other < site_count plan
  pub within : place < length (edges_of plan other)
  pub same_edge : edge_at plan other place ≡ edge_at plan s i
  pub back : neighbour_at plan other place ≡ s
  pub other_side : is_lower_at plan other place ≡ not (is_lower_at plan s i)

found : (plan : SeenPlan) (s i other e : ℕ) → e ≡ edge_at plan s i → e < edge_count plan → is_end plan other e ≡ true → other < site_count plan → other_of plan e other ≡ s → (lo_of plan e == other) ≡ not (lo_of plan e == s)
    → IsAcross plan s i other (place_of plan other e)
found plan s i other e here within is site back side =
    let w = edge_at-place_of plan other e within is in
    record {
      is_site = site;
      within = w.0;
      same_edge = w.1 ∙ here;
      back = ap (λ (x : ℕ). other_of plan x other) w.1 ∙ back;
      other_side = ap (λ (x : ℕ). lo_of plan x == other) w.1 ∙ side ∙ ap (λ (x : ℕ). not (lo_of plan x == s)) here;
    }

from_sides : (plan : SeenPlan) (s i other e : ℕ) → IsPlan plan → e ≡ edge_at plan s i → e < edge_count plan → lo_of plan e < hi_of plan e
    → ((lo_of plan e ≡ s) × (other ≡ hi_of plan e)) ⊎ ((hi_of plan e ≡ s) × (other ≡ lo_of plan e)) → IsAcross plan s i other (place_of plan other e)
from_sides plan s i other e is_plan here within ordered (inl w) =
    let differs : (lo_of plan e == other) ≡ false = ne_eqb (lo_of plan e) other (λ same. omega (arith, w.1)) in
    found plan s i other e here within
    (or_right (lo_of plan e == other) (hi_of plan e == other) (eq-eqb (hi_of plan e) other (sym w.1)))
    (omega (arith, is_plan.within e within, w.1))
    (cond-false (lo_of plan e == other) (hi_of plan e) (lo_of plan e) differs ∙ w.0)
    (differs ∙ sym (ap not (eq-eqb (lo_of plan e) s w.0)))
from_sides plan s i other e is_plan here within ordered (inr w) =
    let same : (lo_of plan e == other) ≡ true = eq-eqb (lo_of plan e) other (sym w.1) in
    found plan s i other e here within
    (or_left (lo_of plan e == other) (hi_of plan e == other) same)
    (omega (arith, is_plan.within e within, w.1))
    (cond-true (lo_of plan e == other) (hi_of plan e) (lo_of plan e) same ∙ w.0)
    (same ∙ sym (ap not (ne_eqb (lo_of plan e) s (λ e. omega (arith, w.0)))))

pub across : (plan : SeenPlan) (s i : ℕ) → IsPlan plan → i < length (edges_of plan s) → IsAcross plan s i (neighbour_at plan s i) (place_of plan (neighbour_at plan s i) (edge_at plan s i))
across plan s i is_plan h =
    let is_placed = placed plan s i is_plan h in
    from_sides plan s i (neighbour_at plan s i) (edge_at plan s i) is_plan refl is_placed.edge_within is_placed.ordered is_placed.sides
