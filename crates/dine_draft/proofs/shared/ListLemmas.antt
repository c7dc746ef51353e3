-- Tests of the elements of a list, and their places; and what a loop that pushes one value for each element has.
use Rattle.std.proofs.Common.{◌≡◌, ℕ, ◌+◌, ◌<◌, Bool, true, false, not, ◌||◌, cond, List, [], ◌∷◌, ◌++◌, map, length, get_or, take, Option, Some, None, inl, inr, zero-add, refl, sym, ap, ◌∙◌, arith}
use Rattle.std.specs.List.{list_any, position, position_or_len, range_with_len}
use Rattle.std.specs.Option.{option_or}
use Rattle.std.proofs.lemmas.Bool.{cases_Bool, cases_lt, false≢true, lt-ltb, le-ltb}
use Rattle.std.proofs.lemmas.List.{length-take-le, get_or-take, take_more, map_push, map_more, length-map}
use Rattle.std.proofs.lemmas.List.Folds.{list_any_at, list_any_none}
use Rattle.std.proofs.lemmas.List.Quantifiers.{position-Some}
use Rattle.std.proofs.lemmas.List.Sums.{position_or_len_is, fails_before_first}
use Rattle.std.proofs.lemmas.List.FromFn.{length-range_with_len, get_or-range_with_len}
use Rattle.dine_graph.proofs.shared.ListLemmas.{position_none_at}
use Rattle.dine_draft.specs.Refusals.{stands_before, first_twice, first_some}

pub list_any-map : {X Y : Type 0} (p : X → Bool) (h : Y → X) (ys : List Y) → list_any p (map h ys) ≡ list_any (λ y. p (h y)) ys
list_any-map p h [] = refl
list_any-map p h (y ∷ ys) = ap (λ b. p (h y) || b) (list_any-map p h ys)

pub position_or_len-map : {X Y : Type 0} (p : X → Bool) (h : Y → X) (ys : List Y) → position_or_len p (map h ys) ≡ position_or_len (λ y. p (h y)) ys
position_or_len-map p h [] = refl
position_or_len-map p h (y ∷ ys) = ap (λ n. cond (not (p (h y))) (1 + n) 0) (position_or_len-map p h ys)

pub position-map : {X Y : Type 0} (p : X → Bool) (h : Y → X) (ys : List Y) → position p (map h ys) ≡ position (λ y. p (h y)) ys
position-map p h ys = rw (position_or_len-map p h ys, length-map ys h)

-- the position of an element that passes after ones that don't, and of none
pub position_here : {X : Type 0} (p : X → Bool) (xs : List X) (i : ℕ) (d : X) → i < length xs → ((k : ℕ) → k < i → p (get_or xs k d) ≡ false) → p (get_or xs i d) ≡ true → position p xs ≡ Some i
position_here p xs i d within before here =
    let is = position_or_len_is p xs i d (omega arith) before (λ _. here) in
    rw (is, lt-ltb i (length xs) within)

pub position_none : {X : Type 0} (p : X → Bool) (xs : List X) (d : X) → ((k : ℕ) → k < length xs → p (get_or xs k d) ≡ false) → position p xs ≡ None
position_none p xs d none =
    let is = position_or_len_is p xs (length xs) d (omega arith) none (λ h. absurd (omega arith)) in
    rw (is, le-ltb (length xs) (length xs) (omega arith))

-- the place of an element that is at an earlier place too, after ones that are not, and of none
pub first_twice_here : {X : Type 0} (same : X → X → Bool) (none : X) (xs : List X) (i : ℕ) → i < length xs → ((k : ℕ) → k < i → stands_before same none xs k ≡ false) → stands_before same none xs i ≡ true → first_twice same none xs ≡ Some i
first_twice_here same none xs i within before here =
    let places = range_with_len 0 (length xs) in
    let at : (k : ℕ) → k < length xs → get_or places k 0 ≡ k = λ k h. get_or-range_with_len 0 (length xs) k 0 h ∙ omega arith in
    position_here (stands_before same none xs) places i 0 (rw (length-range_with_len 0 (length xs)) within)
    (λ k h. rw (at k (omega arith)) (before k h))
    (rw (at i within) here)

pub first_twice_none : {X : Type 0} (same : X → X → Bool) (none : X) (xs : List X) → ((k : ℕ) → k < length xs → stands_before same none xs k ≡ false) → first_twice same none xs ≡ None
first_twice_none same none xs h =
    let places = range_with_len 0 (length xs) in
    let at : (k : ℕ) → k < length xs → get_or places k 0 ≡ k = λ k h. get_or-range_with_len 0 (length xs) k 0 h ∙ omega arith in
    let long : length places ≡ length xs = length-range_with_len 0 (length xs) in
    position_none (stands_before same none xs) places 0 (λ k b. rw (at k (omega arith)) (h k (omega arith)))

-- the place of an element that is at an earlier place too is one of the list
pub first_twice_within : {X : Type 0} (same : X → X → Bool) (none : X) (xs : List X) (i : ℕ) → first_twice same none xs ≡ Some i → i < length xs
first_twice_within same none xs i h =
    let places = range_with_len 0 (length xs) in
    let long : length places ≡ length xs = length-range_with_len 0 (length xs) in
    let within : i < length places = (position-Some (stands_before same none xs) places i 0 h).0 in
    omega arith

-- no element passes if none of the list does
pub list_any_false_at : {X : Type 0} (p : X → Bool) (xs : List X) (i : ℕ) (d : X) → list_any p xs ≡ false → i < length xs → p (get_or xs i d) ≡ false
list_any_false_at p xs i d none within =
    elim (cases_Bool (p (get_or xs i d))) [
      | inl passes ↦ absurd (false≢true (sym none ∙ list_any_at p xs i d within passes))
      | inr fails ↦ fails
    ]

-- an element that passes has a position
pub position_within : {X : Type 0} (p : X → Bool) (xs : List X) → list_any p xs ≡ true → position_or_len p xs < length xs
position_within p xs some =
    elim (cases_lt (position_or_len p xs) (length xs)) [
      | inl within ↦ within
      | inr past ↦ absurd (false≢true (sym (list_any_none p xs (λ k d h. fails_before_first p xs k d (omega arith))) ∙ some))
    ]

-- no element is at an earlier place too if no place is the first such
pub first_twice_none_at : {X : Type 0} (same : X → X → Bool) (none : X) (xs : List X) (i : ℕ) → first_twice same none xs ≡ None → i < length xs → stands_before same none xs i ≡ false
first_twice_none_at same none xs i h within =
    let long : length (range_with_len 0 (length xs)) ≡ length xs = length-range_with_len 0 (length xs) in
    rw (get_or-range_with_len 0 (length xs) i 0 within ∙ zero-add i) at (position_none_at (stands_before same none xs) (range_with_len 0 (length xs)) i 0 h (omega arith))

-- two elements at different places are not the same
pub first_twice_none_apart : {X : Type 0} (same : X → X → Bool) (none : X) (xs : List X) (i j : ℕ) → first_twice same none xs ≡ None → i < j → j < length xs → same (get_or xs j none) (get_or xs i none) ≡ false
unfolding stands_before
first_twice_none_apart same none xs i j h before within =
    let apart = list_any_false_at (same (get_or xs j none)) (take j xs) i none (first_twice_none_at same none xs j h within) (let long : length (take j xs) ≡ j = length-take-le j xs (omega arith) in omega arith) in
    rw (get_or-take j xs i none before) at apart

-- the first of two lists
pub first_some-append : {A : Type 0} (xs ys : List (Option A)) → first_some (xs ++ ys) ≡ option_or (first_some xs) (first_some ys)
first_some-append [] ys = refl
first_some-append (None ∷ xs) ys = first_some-append xs ys
first_some-append (Some x ∷ xs) ys = refl

-- one more element of a mapped front
pub map-take_more : {X Y : Type 0} (f : X → Y) (xs : List X) (i : ℕ) (x : X) → i < length xs → x ≡ get_or xs i x → map f (take (i + 1) xs) ≡ map f (take i xs) ++ f x ∷ []
map-take_more f xs i x within is = ap (map f) (take_more xs i x within) ∙ map_push f (take i xs) (get_or xs i x) ∙ ap (λ y. map f (take i xs) ++ f y ∷ []) (sym is)

-- what a loop that pushes one value for each element has: one value more, after one element more
pub each_more : {W X Z : Type 0} (seen : W → Z) (f : X → Z) (done : List W) (w : W) (xs : List X) (i : ℕ) (d : X) → i < length xs → map seen done ≡ map f (take i xs) → seen w ≡ f (get_or xs i d) → map seen (done ++ w ∷ []) ≡ map f (take (i + 1) xs)
each_more seen f done w xs i d within before here =
    map_push seen done w ∙ ap (λ zs. zs ++ seen w ∷ []) before ∙ ap (λ z. map f (take i xs) ++ z ∷ []) here ∙ sym (map_more f xs i d within)

-- the same for values that are seen as the elements
pub each_seen_more : {W X Y Z : Type 0} (seen : W → Z) (f : Y → Z) (g : X → Y) (done : List W) (w : W) (xs : List X) (i : ℕ) (x : X) → i < length xs → x ≡ get_or xs i x → map seen done ≡ map f (map g (take i xs)) → seen w ≡ f (g x) → map seen (done ++ w ∷ []) ≡ map f (map g (take (i + 1) xs))
each_seen_more seen f g done w xs i x within is before here =
    map_push seen done w ∙ ap (λ zs. zs ++ seen w ∷ []) before ∙ ap (λ z. map f (map g (take i xs)) ++ z ∷ []) here
    ∙ sym (ap (map f) (map-take_more g xs i x within is) ∙ map_push f (map g (take i xs)) (g x))

-- and for values that are pushed as they are
pub each_kept_more : {X Y Z : Type 0} (f : Y → Z) (g : X → Y) (done : List Z) (z : Z) (xs : List X) (i : ℕ) (x : X) → i < length xs → x ≡ get_or xs i x → done ≡ map f (map g (take i xs)) → z ≡ f (g x) → done ++ z ∷ [] ≡ map f (map g (take (i + 1) xs))
each_kept_more f g done z xs i x within is before here =
    ap (λ zs. zs ++ z ∷ []) before ∙ ap (λ y. map f (map g (take i xs)) ++ y ∷ []) here
    ∙ sym (ap (map f) (map-take_more g xs i x within is) ∙ map_push f (map g (take i xs)) (g x))

-- and for a value of each element itself
pub each_plain_more : {X Z : Type 0} (f : X → Z) (done : List Z) (z : Z) (xs : List X) (i : ℕ) (d : X) → i < length xs → done ≡ map f (take i xs) → z ≡ f (get_or xs i d) → done ++ z ∷ [] ≡ map f (take (i + 1) xs)
each_plain_more f done z xs i d within before here =
    ap (λ zs. zs ++ z ∷ []) before ∙ ap (λ y. map f (take i xs) ++ y ∷ []) here ∙ sym (map_more f xs i d within)
