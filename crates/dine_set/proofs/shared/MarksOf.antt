-- What the marks of a list say of the list.
use Rattle.std.proofs.Common.{◌&&◌, not, ap₂, get_or, ◌≤◌, mul-zero, append_assoc, ◌≡◌, ℕ, zero, suc, ◌+◌, ◌-◌, ◌<◌, Bool, false, true, cond, None, List, [], ◌∷◌, ◌++◌, length, set, map, replicate, refl, sym, ap, ◌∙◌, position, count_by, arith, length-append, length-set}
use Rattle.std.specs.Option.{option_map}
use Rattle.std.proofs.Math.Seq.{set-append_seam}
use Rattle.std.proofs.lemmas.Grind.{common_steps}
use Rattle.std.proofs.lemmas.List.Folds.{sum_by-replicate}
use Rattle.std.proofs.lemmas.List.Sums.{sum_by-cons}
use Rattle.std.proofs.lemmas.List.{set-append_left, map-set, length-map, map-append}
use Rattle.dine_set.specs.Marks.{marks_of, nth_position, both_marks, marks_without}
use Rattle.dine_set.proofs.shared.NthPosition.{nth_position-zero, nth_position-skip, nth_position-Some, nth_position-None}

pub marks_of-nil : {X : Type 0} (p : X → Bool) → marks_of p [] ≡ replicate 64 false
unfolding marks_of
marks_of-nil p = refl

-- one element is changed
pub marks_of-set : {X : Type 0} (p : X → Bool) (xs : List X) (i : ℕ) (y : X) → i < length xs → marks_of p (set xs i y) ≡ set (marks_of p xs) i (p y)
unfolding marks_of
marks_of-set p xs i y lt =
    let within : i < length (map p xs) = omega (arith, length-map xs p) in
    rw (length-set, map-set) (sym (set-append_left (map p xs) (replicate (64 - length xs) false) i (p y) within))

-- one element is added at the end
pub marks_of-push : {X : Type 0} (p : X → Bool) (xs : List X) (y : X) → length xs < 64 → marks_of p (xs ++ y ∷ []) ≡ set (marks_of p xs) (length xs) (p y)
unfolding marks_of
marks_of-push p xs y room =
    let more : 64 - length xs ≡ suc (64 - (length xs + 1)) = omega arith in
    let rest : List Bool = replicate (64 - (length xs + 1)) false in
    rw (length-append, map-append, more)
    (append_assoc (map p xs) (p y ∷ []) rest ∙ sym (set-append_seam (map p xs) false rest (p y)) ∙ ap (λ n. set (map p xs ++ false ∷ rest) n (p y)) (length-map xs p))

nth_position-false : (n k : ℕ) → nth_position (λ b. b) n (replicate k false) ≡ None
nth_position-false n zero = refl
nth_position-false n (suc k) = nth_position-skip (λ b. b) n false (replicate k false) refl ∙ ap (option_map (λ i. i + 1)) (nth_position-false n k)

nth_position-map : {X : Type 0} (p : X → Bool) (n k : ℕ) (xs : List X) → nth_position (λ b. b) n (map p xs ++ replicate k false) ≡ nth_position p n xs
nth_position-map p n k [] = nth_position-false n k
nth_position-map p zero k (x ∷ xs) = rw (nth_position-map p zero k xs)
nth_position-map p (suc n) k (x ∷ xs) = rw (nth_position-map p (cond (p x) n (suc n)) k xs)

pub nth_position-marks_of : {X : Type 0} (p : X → Bool) (n : ℕ) (xs : List X) → nth_position (λ b. b) n (marks_of p xs) ≡ nth_position p n xs
unfolding marks_of
nth_position-marks_of p n xs = nth_position-map p n (64 - length xs) xs

pub position-marks_of : {X : Type 0} (p : X → Bool) (xs : List X) → position (λ b. b) (marks_of p xs) ≡ position p xs
position-marks_of p xs = sym (nth_position-zero (λ b. b) (marks_of p xs)) ∙ nth_position-marks_of p 0 xs ∙ nth_position-zero p xs

count_by-map : {X : Type 0} (p : X → Bool) (k : ℕ) (xs : List X) → count_by (λ b. b) (map p xs ++ replicate k false) ≡ count_by p xs
count_by-map p k [] = sum_by-replicate (λ b. cond b 1 0) k false ∙ mul-zero k
count_by-map p k (x ∷ xs) =
    sum_by-cons (λ b. cond b 1 0) (p x) (map p xs ++ replicate k false) ∙ ap (λ n. cond (p x) 1 0 + n) (count_by-map p k xs) ∙ sym (sum_by-cons (λ y. cond (p y) 1 0) x xs)

pub count_by-marks_of : {X : Type 0} (p : X → Bool) (xs : List X) → count_by (λ b. b) (marks_of p xs) ≡ count_by p xs
unfolding marks_of
count_by-marks_of p xs = count_by-map p (64 - length xs) xs

-- ---- two tests
both-false : (k : ℕ) → both_marks (replicate k false) (replicate k false) ≡ replicate k false
both-false zero = refl
both-false (suc k) = ap (λ marks. false ∷ marks) (both-false k)

both-map : {X : Type 0} (p q : X → Bool) (k : ℕ) (xs : List X)
    → both_marks (map p xs ++ replicate k false) (map q xs ++ replicate k false) ≡ map (λ x. p x && q x) xs ++ replicate k false
both-map p q k [] = both-false k
both-map p q k (x ∷ xs) = ap (λ marks. (p x && q x) ∷ marks) (both-map p q k xs)

pub both-marks_of : {X : Type 0} (p q : X → Bool) (xs : List X) → both_marks (marks_of p xs) (marks_of q xs) ≡ marks_of (λ x. p x && q x) xs
unfolding marks_of
both-marks_of p q xs = both-map p q (64 - length xs) xs

without-false : (k : ℕ) → marks_without (replicate k false) (replicate k false) ≡ replicate k false
without-false zero = refl
without-false (suc k) = ap (λ marks. false ∷ marks) (without-false k)

without-map : {X : Type 0} (p q : X → Bool) (k : ℕ) (xs : List X)
    → marks_without (map p xs ++ replicate k false) (map q xs ++ replicate k false) ≡ map (λ x. p x && not (q x)) xs ++ replicate k false
without-map p q k [] = without-false k
without-map p q k (x ∷ xs) = ap (λ marks. (p x && not (q x)) ∷ marks) (without-map p q k xs)

pub without-marks_of : {X : Type 0} (p q : X → Bool) (xs : List X) → marks_without (marks_of p xs) (marks_of q xs) ≡ marks_of (λ x. p x && not (q x)) xs
unfolding marks_of
without-marks_of p q xs = without-map p q (64 - length xs) xs

-- ---- marks that stay
-- tests that give the same of all elements mark the same
map_same : {X Y : Type 0} (p : X → Bool) (q : Y → Bool) (f : X → Y) → ((x : X) → q (f x) ≡ p x) → (xs : List X) → map q (map f xs) ≡ map p xs
map_same p q f same [] = refl
map_same p q f same (x ∷ xs) = ap₂ (λ mark marks. mark ∷ marks) (same x) (map_same p q f same xs)

pub marks_of-map : {X Y : Type 0} (p : X → Bool) (q : Y → Bool) (f : X → Y) → ((x : X) → q (f x) ≡ p x) → (xs : List X) → marks_of q (map f xs) ≡ marks_of p xs
unfolding marks_of
marks_of-map p q f same xs = rw (length-map) (ap (λ marks. marks ++ replicate (64 - length xs) false) (map_same p q f same xs))

-- two tests that agree at each element mark the same
pub marks_of-agree : {X : Type 0} (p q : X → Bool) → ((x : X) → p x ≡ q x) → (xs : List X) → marks_of p xs ≡ marks_of q xs
unfolding marks_of
marks_of-agree p q agree xs = ap (λ marks. marks ++ replicate (64 - length xs) false) (map_agree xs)
  where
    map_agree : (ys : List _) → map p ys ≡ map q ys
    map_agree [] = refl
    map_agree (y ∷ ys) = ap₂ (λ mark marks. mark ∷ marks) (agree y) (map_agree ys)

-- an element is changed, and its mark is not
map-set_same : {X : Type 0} (p : X → Bool) (xs : List X) (i : ℕ) (y past : X) → p y ≡ p (get_or xs i past) → map p (set xs i y) ≡ map p xs
map-set_same p [] i y past same = refl
map-set_same p (x ∷ xs) zero y past same = ap (λ mark. mark ∷ map p xs) same
map-set_same p (x ∷ xs) (suc i) y past same = ap (λ marks. p x ∷ marks) (map-set_same p xs i y past same)

pub marks_of-same : {X : Type 0} (p : X → Bool) (xs : List X) (i : ℕ) (y past : X) → p y ≡ p (get_or xs i past) → marks_of p (set xs i y) ≡ marks_of p xs
unfolding marks_of
marks_of-same p xs i y past same = rw (length-set) (ap (λ marks. marks ++ replicate (64 - length xs) false) (map-set_same p xs i y past same))

-- no element passes
map_none : {X : Type 0} (p : X → Bool) (k : ℕ) (xs : List X) → ((i : ℕ) (past : X) → i < length xs → p (get_or xs i past) ≡ false) → map p xs ++ replicate k false ≡ replicate (length xs + k) false
map_none p k [] none = let e : k ≡ 0 + k = omega arith in ap (λ n. replicate n false) e
map_none p k (x ∷ xs) none =
    let next : suc (length xs) + k ≡ suc (length xs + k) = omega arith in
    rw next (ap₂ (λ mark marks. mark ∷ marks) (none 0 x (omega arith)) (map_none p k xs (λ i past h. none (suc i) past (omega arith))))

pub marks_of-none : {X : Type 0} (p : X → Bool) (xs : List X) → length xs ≤ 64 → ((i : ℕ) (past : X) → i < length xs → p (get_or xs i past) ≡ false) → marks_of p xs ≡ replicate 64 false
unfolding marks_of
marks_of-none p xs few none =
    let all : length xs + (64 - length xs) ≡ 64 = omega arith in
    map_none p (64 - length xs) xs none ∙ ap (λ n. replicate n false) all

-- each element passes
map_each : {X : Type 0} (p : X → Bool) (xs : List X) → ((i : ℕ) (past : X) → i < length xs → p (get_or xs i past) ≡ true) → map p xs ≡ replicate (length xs) true
map_each p [] each = refl
map_each p (x ∷ xs) each = ap₂ (λ mark marks. mark ∷ marks) (each 0 x (omega arith)) (map_each p xs (λ i past h. each (suc i) past (omega arith)))

pub marks_of-each : {X : Type 0} (p : X → Bool) (xs : List X) → ((i : ℕ) (past : X) → i < length xs → p (get_or xs i past) ≡ true) → marks_of p xs ≡ replicate (length xs) true ++ replicate (64 - length xs) false
unfolding marks_of
marks_of-each p xs each = ap (λ marks. marks ++ replicate (64 - length xs) false) (map_each p xs each)

pub ruleset marks_laws = (common_steps, marks_of-nil, marks_of-set, marks_of-push, nth_position-marks_of, position-marks_of, count_by-marks_of, both-marks_of, without-marks_of, nth_position-Some, nth_position-None)
