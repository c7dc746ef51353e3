-- An order of numbers grows by one that no number that is left has to be before.
use Rattle.std.proofs.Common.{◌≡◌, MatchOption, Option, Some, None, map, ℕ, zero, suc, ◌+◌, ◌<◌, ◌≤◌, ◌==◌, ◌&&◌, not, Bool, true, false, List, [], ◌∷◌, ◌++◌, length, get_or, Contains, IsPermutation, refl, sym, ◌∙◌, ap, subst, inl, inr, arith, append_assoc, zero-add}
use Rattle.std.specs.List.{range_with_len, remove}
use Rattle.std.proofs.lemmas.Bool.{eqb-false, false≢true, true_from_ne_false}
use Rattle.std.proofs.lemmas.List.{append-nil}
use Rattle.std.proofs.lemmas.List.Elements.{Contains-append_cases, Contains-append_left, Contains-append_right}
use Rattle.std.proofs.lemmas.List.Folds.{list_any_at, list_any_none}
use Rattle.std.proofs.lemmas.List.FromFn.{length-range_with_len, get_or-range_with_len, get_or-map-range_with_len, length-map-range_with_len, map-range_with_len_more}
use Rattle.std.proofs.lemmas.List.Folds.{map_fixed}
use Rattle.std.proofs.lemmas.List.Sorted.{IsPermutation-more, IsPermutation-sym, Contains-permutation}
use Rattle.dine_graph.specs.Plan.{SeenPlan, edge_count, other_of, site_count}
use Rattle.dine_rules.specs.World.{WorldState}
use Rattle.dine_rules.specs.Precedence.{IsAcyclic, StandsBefore, preferred_end}
use Rattle.dine_states.specs.Orders.{IsOrder, all_by_precedence, ends_by_precedence, is_behind, is_free}

-- Some numbers are in order, and the others are left: all that has to be before one in order is before it.
pub record IsBegun (n : ℕ) (pairs : List (ℕ × ℕ)) (order left : List ℕ) : Type 0 where
  pub each_once : IsPermutation (range_with_len 0 n) (order ++ left)
  pub first_before : (a b : ℕ) → Contains pairs (a, b) → a < n → Contains order b → StandsBefore a b order

-- ---- lists

split_at : (xs : List ℕ) (k x : ℕ) → k < length xs → get_or xs k x ≡ x → (front rest : List ℕ) × (xs ≡ front ++ x ∷ rest)
split_at [] k x h is = absurd (omega arith)
split_at (y ∷ ys) zero x h is = ([], ys, ap (λ (z : ℕ). z ∷ ys) is)
split_at (y ∷ ys) (suc k) x h is = let w = split_at ys k x (omega arith) is in (y ∷ w.0, w.1, ap (λ (l : List ℕ). y ∷ l) w.2)

before_push : (a b s : ℕ) (xs : List ℕ) → StandsBefore a b xs → StandsBefore a b (xs ++ s ∷ [])
before_push a b s xs h = (h.0, h.1, h.2 ++ s ∷ [], ap (λ (l : List ℕ). l ++ s ∷ []) h.3 ∙ append_assoc (h.0 ++ a ∷ h.1) (b ∷ h.2) (s ∷ []))

before_last : (a s : ℕ) (xs : List ℕ) → Contains xs a → StandsBefore a s (xs ++ s ∷ [])
before_last a s xs h = let w = split_at xs h.0 a h.1 h.2 in (w.0, w.1, [], ap (λ (l : List ℕ). l ++ s ∷ []) w.2)

is_only : (b s : ℕ) → Contains (s ∷ []) b → s ≡ b
is_only b s (zero, h, is) = is
is_only b s (suc k, h, is) = absurd (omega arith)

pub in_range : (n a : ℕ) → a < n → Contains (range_with_len 0 n) a
in_range n a within = (a, omega (arith, length-range_with_len 0 n), get_or-range_with_len 0 n a a within ∙ zero-add a)

-- ---- the order

pub same : (y : ℕ) → (y == y) ≡ true
same y = true_from_ne_false (y == y) (λ h. eqb-false y y h refl)

-- a number that is left keeps one that is behind it from being free
not_free : (pairs : List (ℕ × ℕ)) (left : List ℕ) (a x : ℕ) → Contains pairs (a, x) → Contains left a → is_free pairs left x ≡ true → ⊥
not_free pairs left a x pair there free =
    let is_left = list_any_at (λ (y : ℕ). y == a) left there.0 a there.1 (ap (λ (y : ℕ). y == a) there.2 ∙ same a) in
    let behind = list_any_at (is_behind left x) pairs pair.0 (a, x) pair.1 (ap (is_behind left x) pair.2 ∙ both x is_left) in
    false≢true (sym (ap not behind) ∙ free) where
      both : (y : ℕ) → {b : Bool} → b ≡ true → ((y == y) && b) ≡ true
      both y {b} is = ap (λ (c : Bool). c && b) (same y) ∙ is

pub grow_order : (n : ℕ) (pairs : List (ℕ × ℕ)) (order left : List ℕ) (i x : ℕ) → i < length left → x ≡ get_or left i x → is_free pairs left x ≡ true
    → IsBegun n pairs order left → IsBegun n pairs (order ++ x ∷ []) (remove left i)
grow_order n pairs order left i x h is free begun = record {
  each_once = IsPermutation-more (range_with_len 0 n) order left i x h is begun.each_once;
  first_before = λ a b pair within there. elim (Contains-append_cases order (x ∷ []) b there) [
    | inl before ↦ before_push a b x order (begun.first_before a b pair within before)
    | inr last ↦
        let same = is_only b x last in
        subst (λ (y : ℕ). StandsBefore a y (order ++ x ∷ [])) same (behind a (subst (λ (y : ℕ). Contains pairs (a, y)) (sym same) pair) within)
  ];
} where
  behind : (a : ℕ) → Contains pairs (a, x) → a < n → StandsBefore a x (order ++ x ∷ [])
  behind a pair within = elim (Contains-append_cases order left a (Contains-permutation (range_with_len 0 n) (order ++ left) a begun.each_once (in_range n a within))) [
    | inl before ↦ before_last a x order before
    | inr there ↦ absurd (not_free pairs left a x pair there free)
  ]

pub end_order : (n : ℕ) (pairs : List (ℕ × ℕ)) (order left : List ℕ) → left ≡ [] → IsBegun n pairs order left → IsOrder n pairs order
end_order n pairs order left none begun =
    let all = subst (IsPermutation (range_with_len 0 n)) (ap (λ (l : List ℕ). order ++ l) none ∙ append-nil order) begun.each_once in
    record {
      each_once = IsPermutation-sym (range_with_len 0 n) order all;
      first_before = λ a b pair within_a within_b. begun.first_before a b pair within_a (Contains-permutation (range_with_len 0 n) order b all (in_range n b within_b));
    }

-- ---- the order of a plan's sites

in_middle : (front : List ℕ) (x : ℕ) (rest : List ℕ) → Contains (front ++ x ∷ rest) x
in_middle front x rest = Contains-append_right front (x ∷ rest) x (0, omega arith, refl)

pub range_below : (n x : ℕ) → Contains (range_with_len 0 n) x → x < n
range_below n x h =
    let within : h.0 < n = omega (arith, h.1, length-range_with_len 0 n) in
    omega (arith, within, sym (get_or-range_with_len 0 n h.0 x within) ∙ h.2)

-- what is before another in an order of all numbers below n is one of these, and so is the other
both_below : (n a b : ℕ) (order : List ℕ) → IsPermutation order (range_with_len 0 n) → StandsBefore a b order → (a < n) × (b < n)
both_below n a b order all h =
    let there = λ (x : ℕ) (is_in : Contains order x). range_below n x (Contains-permutation order (range_with_len 0 n) x all is_in) in (
      there a (subst (λ (l : List ℕ). Contains l a) (sym h.3) (Contains-append_left (h.0 ++ a ∷ h.1) (b ∷ h.2) a (in_middle h.0 a h.1))),
      there b (subst (λ (l : List ℕ). Contains l b) (sym h.3) (in_middle (h.0 ++ a ∷ h.1) b h.2)),
    )

-- an order by the preferred ends shows that precedence has no cycle
shows_acyclic : (plan : SeenPlan) (state : WorldState) (order : List ℕ) → IsAcyclic plan state → IsOrder (site_count plan) (all_by_precedence plan state) order
    → (acyclic : IsAcyclic plan state) × (acyclic.order ≡ order)
shows_acyclic plan state order known is = (
  record {
    order = order;
    each_once = is.each_once;
    preferred_first = λ e within.
        let p = preferred_end plan state e in
        let q = other_of plan e p in
        let below = both_below (site_count plan) p q known.order known.each_once (known.preferred_first e within) in
        is.first_before p q (pair e within) below.0 below.1;
  },
  refl,
) where
  pair : (e : ℕ) → e < edge_count plan → Contains (all_by_precedence plan state) (ends_by_precedence plan state e)
  pair e within = (
    e,
    omega (arith, within, length-map-range_with_len (ends_by_precedence plan state) 0 (edge_count plan)),
    get_or-map-range_with_len (ends_by_precedence plan state) 0 (edge_count plan) e e (ends_by_precedence plan state e) within (zero-add e),
  )

-- an order that shows that precedence has no cycle is one by the preferred ends
is_order : (plan : SeenPlan) (state : WorldState) (known : IsAcyclic plan state) → IsOrder (site_count plan) (all_by_precedence plan state) known.order
is_order plan state known = record { each_once = known.each_once; first_before = λ a b pair within_a within_b. by_edge a b pair } where
  by_edge : (a b : ℕ) → Contains (all_by_precedence plan state) (a, b) → StandsBefore a b known.order
  by_edge a b (e, h, is) =
      let within : e < edge_count plan = omega (arith, h, length-map-range_with_len (ends_by_precedence plan state) 0 (edge_count plan)) in
      let ends : ends_by_precedence plan state e ≡ (a, b) = sym (get_or-map-range_with_len (ends_by_precedence plan state) 0 (edge_count plan) e e (a, b) within (zero-add e)) ∙ is in
      subst (λ (p : ℕ × ℕ). StandsBefore p.0 p.1 known.order) ends (known.preferred_first e within)

pub shown : {V : Type 0} (items : V → List ℕ) (plan : SeenPlan) (state : WorldState) (n : ℕ) (pairs : List (ℕ × ℕ)) (found : Option V) → n ≡ site_count plan → pairs ≡ all_by_precedence plan state → IsAcyclic plan state
    → MatchOption found ((order : List ℕ) → IsOrder n pairs order → ⊥) (λ order. IsOrder n pairs (items order)) → MatchOption found ⊥ (λ order. (acyclic : IsAcyclic plan state) × (acyclic.order ≡ items order))
shown items plan state n pairs None sites pairs_are known h =
    h known.order (subst (λ (m : ℕ). IsOrder m pairs known.order) (sym sites) (subst (λ (l : List (ℕ × ℕ)). IsOrder (site_count plan) l known.order) (sym pairs_are) (is_order plan state known)))
shown items plan state n pairs (Some order) sites pairs_are known h =
    shows_acyclic plan state (items order) known (subst (λ (m : ℕ). IsOrder m (all_by_precedence plan state) (items order)) sites (subst (λ (l : List (ℕ × ℕ)). IsOrder n l (items order)) pairs_are h))

-- ---- lists that grow

pub range_more : (n : ℕ) → range_with_len 0 (n + 1) ≡ range_with_len 0 n ++ n ∷ []
range_more n =
    sym (fixed (range_with_len 0 (n + 1))) ∙ map-range_with_len_more (λ (x : ℕ). x) 0 n n (omega arith) ∙ ap (λ (l : List ℕ). l ++ n ∷ []) (fixed (range_with_len 0 n)) where
      fixed : (xs : List ℕ) → map (λ (x : ℕ). x) xs ≡ xs
      fixed xs = map_fixed (λ (x : ℕ). x) xs (λ k d h. refl)

-- none of the pairs has a number before this one, as far as a loop has come
pub free_by : (pairs : List (ℕ × ℕ)) (left : List ℕ) (x n : ℕ) → length pairs ≤ n → ((k : ℕ) (d : ℕ × ℕ) → k < n → is_behind left x (get_or pairs k d) ≡ false) → true ≡ is_free pairs left x
free_by pairs left x n all none = sym (ap not (list_any_none (is_behind left x) pairs (λ k d h. none k d (omega (arith, h, all)))))
