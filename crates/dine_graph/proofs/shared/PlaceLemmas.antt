-- The edges of a site, and an edge among them.
use Rattle.std.proofs.Common.{◌≡◌, ℕ, ◌+◌, ◌<◌, ◌≤◌, ◌==◌, Some, Bool, true, false, ◌||◌, List, length, get_or, zero-add, eq-eqb, refl, ◌∙◌, arith}
use Rattle.std.specs.List.{list_any, range_with_len, slice_get, All}
use Rattle.std.specs.List.Sorted.{IsStrictlyIncreasing}
use Rattle.std.proofs.lemmas.Option.{slice_get_within, get_or_from_slice_get}
use Rattle.std.proofs.lemmas.List.Elements.{All-filter, filter_passes}
use Rattle.std.proofs.lemmas.List.Kept.{AllPairs-from_increasing, IsStrictlyIncreasing-filter}
use Rattle.std.proofs.lemmas.List.FromFn.{length-range_with_len, get_or-range_with_len}
use Rattle.dine_graph.specs.Plan.{is_one_of, positions_at}
use Rattle.dine_graph.proofs.shared.ListLemmas.{length-filter-le, list_any-filter}

or_true : (a b : Bool) → b ≡ true → (a || b) ≡ true
or_true true b h = refl
or_true false b h = h

pub low_is_one_of : (ends : ℕ × ℕ) → is_one_of ends ends.0 ≡ true
low_is_one_of ends = rw (eq-eqb ends.0 ends.0 refl)

pub high_is_one_of : (ends : ℕ × ℕ) → is_one_of ends ends.1 ≡ true
high_is_one_of ends = or_true (ends.0 == ends.1) (ends.1 == ends.1) (eq-eqb ends.1 ends.1 refl)

pub positions_few : (ends : List (ℕ × ℕ)) (s : ℕ) → length ends ≤ 512 → length (positions_at ends s) ≤ 512
positions_few ends s few =
    let kept = length-filter-le (λ e. is_one_of (get_or ends e (0, 0)) s) (range_with_len 0 (length ends)) in
    let long = length-range_with_len 0 (length ends) in
    omega arith

pub positions_has : (ends : List (ℕ × ℕ)) (e s : ℕ) → e < length ends → is_one_of (get_or ends e (0, 0)) s ≡ true → list_any (λ x. x == e) (positions_at ends s) ≡ true
positions_has ends e s within one =
    let numbers = range_with_len 0 (length ends) in
    let at : get_or numbers e 0 ≡ e = get_or-range_with_len 0 (length ends) e 0 within ∙ zero-add e in
    let long : length numbers ≡ length ends = length-range_with_len 0 (length ends) in
    list_any-filter (λ x. is_one_of (get_or ends x (0, 0)) s) (λ x. x == e) numbers e 0 (omega arith) (rw at one) (eq-eqb _ e at)

range_ascending : (n : ℕ) → IsStrictlyIncreasing (range_with_len 0 n)
range_ascending n = λ k h.
    let long : length (range_with_len 0 n) ≡ n = length-range_with_len 0 n in
    let here : get_or (range_with_len 0 n) k 0 ≡ 0 + k = get_or-range_with_len 0 n k 0 (omega arith) in
    let next : get_or (range_with_len 0 n) (k + 1) 0 ≡ 0 + (k + 1) = get_or-range_with_len 0 n (k + 1) 0 (omega arith) in
    omega arith

pub positions_ascending : (ends : List (ℕ × ℕ)) (s : ℕ) → IsStrictlyIncreasing (positions_at ends s)
positions_ascending ends s = IsStrictlyIncreasing-filter (λ e. is_one_of (get_or ends e (0, 0)) s) (range_with_len 0 (length ends)) (range_ascending (length ends))

pub positions_each : (ends : List (ℕ × ℕ)) (s : ℕ) → All (λ e. is_one_of (get_or ends e (0, 0)) s ≡ true) (positions_at ends s)
positions_each ends s = filter_passes (λ e. is_one_of (get_or ends e (0, 0)) s) (range_with_len 0 (length ends))

pub positions_within : (ends : List (ℕ × ℕ)) (s : ℕ) → All (λ e. e < length ends) (positions_at ends s)
positions_within ends s =
    All-filter (λ e. is_one_of (get_or ends e (0, 0)) s) (λ e. e < length ends) (range_with_len 0 (length ends)) (λ k d h.
    let long : length (range_with_len 0 (length ends)) ≡ length ends = length-range_with_len 0 (length ends) in
    let here : get_or (range_with_len 0 (length ends)) k d ≡ 0 + k = get_or-range_with_len 0 (length ends) k d (omega arith) in
    omega arith)

-- a number is at one place of an ascending list
pub place_unique : (xs : List ℕ) (i j e : ℕ) → IsStrictlyIncreasing xs → slice_get xs i ≡ Some e → slice_get xs j ≡ Some e → i ≡ j
place_unique xs i j e ascending at_i at_j =
    let in_i = slice_get_within xs i e at_i in
    let in_j = slice_get_within xs j e at_j in
    let is_i : get_or xs i 0 ≡ e = get_or_from_slice_get xs i e 0 at_i in
    let is_j : get_or xs j 0 ≡ e = get_or_from_slice_get xs j e 0 at_j in
    let below : i < j → ⊥ = λ h. let less : get_or xs i 0 < get_or xs j 0 = AllPairs-from_increasing xs ascending i j 0 h in_j in omega arith in
    let above : j < i → ⊥ = λ h. let less : get_or xs j 0 < get_or xs i 0 = AllPairs-from_increasing xs ascending j i 0 h in_i in omega arith in
    omega arith
