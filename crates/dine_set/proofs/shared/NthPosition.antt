-- `nth_position`, an element at a time.
use Rattle.std.proofs.Common.{Option, ◌≤◌, not, take, count_by, ◌≡◌, ℕ, zero, suc, ◌+◌, Bool, true, false, cond, ltb, Some, None, List, [], ◌∷◌, length, set, refl, sym, ap, ◌∙◌, position, arith}
use Rattle.std.specs.List.{position_or_len}
use Rattle.std.specs.Option.{option_map}
use Rattle.std.proofs.lemmas.Bool.{lt-ltb}
use Rattle.std.proofs.lemmas.Grind.{common_steps}
use Rattle.std.proofs.lemmas.List.Sums.{prefix_len-le-length, sum_by-cons}
use Rattle.dine_set.specs.Marks.{nth_position, IsNth}

-- an element that does not pass counts for nothing
pub nth_position-skip : {X : Type 0} (p : X → Bool) (n : ℕ) (x : X) (xs : List X) → p x ≡ false → nth_position p n (x ∷ xs) ≡ option_map (λ i. i + 1) (nth_position p n xs)
nth_position-skip p zero x xs skip = rw skip
nth_position-skip p (suc n) x xs skip = rw skip

-- the element 0 of those that pass is the first
position-skip : (m n : ℕ) → option_map (λ i. i + 1) (cond (ltb m n) (Some m) None) ≡ cond (ltb (1 + m) (suc n)) (Some (1 + m)) None
position-skip m n = grind (arith, common_steps)

pub nth_position-zero : {X : Type 0} (p : X → Bool) (xs : List X) → nth_position p 0 xs ≡ position p xs
nth_position-zero p [] = refl
nth_position-zero p (x ∷ xs) = at_first (p x) refl (nth_position-zero p xs)
  where
    at_first : (b : Bool) → p x ≡ b → nth_position p 0 xs ≡ position p xs → nth_position p 0 (x ∷ xs) ≡ position p (x ∷ xs)
    at_first true passes rest =
        let some : ltb 0 (suc (length xs)) ≡ true = lt-ltb 0 (suc (length xs)) (omega arith) in
        rw (passes, some)
    at_first false skip rest = rw (skip, rest) (position-skip (position_or_len p xs) (length xs))

pub position-Some : {X : Type 0} (p : X → Bool) (xs : List X) (i : ℕ) → position p xs ≡ Some i → position_or_len p xs ≡ i
position-Some p xs i found = grind (arith, common_steps)

pub position-None : {X : Type 0} (p : X → Bool) (xs : List X) → position p xs ≡ None → position_or_len p xs ≡ length xs
position-None p xs none = grind (arith, common_steps, prefix_len-le-length)

-- if none passes there is no n-th
nth_position-past : {X : Type 0} (p : X → Bool) (n : ℕ) (xs : List X) → position_or_len p xs ≡ length xs → nth_position p n xs ≡ None
nth_position-past p n [] none = refl
nth_position-past p n (x ∷ xs) none = at_first (p x) refl none (nth_position-past p n xs)
  where
    at_first : (b : Bool) → p x ≡ b → cond (not (p x)) (1 + position_or_len p xs) 0 ≡ suc (length xs) → (position_or_len p xs ≡ length xs → nth_position p n xs ≡ None) → nth_position p n (x ∷ xs) ≡ None
    at_first true passes none rest = absurd (let e : 0 ≡ suc (length xs) = rw passes at none in omega arith)
    at_first false skip none rest =
        let e : 1 + position_or_len p xs ≡ suc (length xs) = rw skip at none in
        nth_position-skip p n x xs skip ∙ ap (option_map (λ i. i + 1)) (rest (omega arith))

pub nth_position-none : {X : Type 0} (p : X → Bool) (n : ℕ) (xs : List X) → position p xs ≡ None → nth_position p n xs ≡ None
nth_position-none p n xs none = nth_position-past p n xs (position-None p xs none)

-- the element n + 1 is the element n of what is left when the first does not pass
pub nth_position-suc : {X : Type 0} (p : X → Bool) (n : ℕ) (xs : List X) (y : X) → p y ≡ false → nth_position p (suc n) xs ≡ nth_position p n (set xs (position_or_len p xs) y)
nth_position-suc p n [] y none = refl
nth_position-suc p n (x ∷ xs) y none = at_first (p x) refl (nth_position-suc p n xs y none)
  where
    at_first : (b : Bool) → p x ≡ b → nth_position p (suc n) xs ≡ nth_position p n (set xs (position_or_len p xs) y) → nth_position p (suc n) (x ∷ xs) ≡ nth_position p n (set (x ∷ xs) (position_or_len p (x ∷ xs)) y)
    at_first true passes rest = rw passes (sym (nth_position-skip p n y xs none))
    at_first false skip rest =
        let next : 1 + position_or_len p xs ≡ suc (position_or_len p xs) = omega arith in
        rw (skip, rest, next) (sym (nth_position-skip p n x (set xs (position_or_len p xs) y) skip))

-- ---- what `nth_position` says by itself
one_before : (o : Option ℕ) (i : ℕ) → option_map (λ j. j + 1) o ≡ Some i → (j : ℕ) × (o ≡ Some j) × (i ≡ suc j)
one_before None i found = cc
one_before (Some j) i found = (j, refl, let e : j + 1 ≡ i = cc in omega arith)

IsNth-cons : {X : Type 0} (p : X → Bool) (m n : ℕ) (x : X) (xs : List X) (i : ℕ) → cond (p x) 1 0 + m ≡ n → ((j : ℕ) → nth_position p m xs ≡ Some j → IsNth p m xs j) → option_map (λ j. j + 1) (nth_position p m xs) ≡ Some i → IsNth p n (x ∷ xs) i
IsNth-cons p m n x xs i count rest found =
    let e = one_before (nth_position p m xs) i found in
    let r = rest e.0 e.1 in
    rw e.2 (record {
      passes = r.passes;
      before = sum_by-cons (λ y. cond (p y) 1 0) x (take e.0 xs) ∙ ap (λ k. cond (p x) 1 0 + k) r.before ∙ count;
    })

pub nth_position-Some : {X : Type 0} (p : X → Bool) (n : ℕ) (xs : List X) (i : ℕ) → nth_position p n xs ≡ Some i → IsNth p n xs i
nth_position-Some p n [] i found = absurd (let e : None ≡ Some i = found in cc)
nth_position-Some p n (x ∷ xs) i found = at_first (p x) refl n found (λ m j. nth_position-Some p m xs j)
  where
    at_first : (b : Bool) → p x ≡ b → (m : ℕ) → nth_position p m (x ∷ xs) ≡ Some i → ((k j : ℕ) → nth_position p k xs ≡ Some j → IsNth p k xs j) → IsNth p m (x ∷ xs) i
    at_first true passes zero found rest = let e : Some 0 ≡ Some i = rw passes at found in let z : 0 ≡ i = cc in rw (← z) (record { passes = rw passes; before = refl })
    at_first true passes (suc m) found rest = IsNth-cons p m (suc m) x xs i (rw passes (omega arith)) (rest m) (rw passes at found)
    at_first false skip m found rest = IsNth-cons p m m x xs i (rw skip (omega arith)) (rest m) (sym (nth_position-skip p m x xs skip) ∙ found)

-- no n-th: no more than n pass
pub nth_position-None : {X : Type 0} (p : X → Bool) (n : ℕ) (xs : List X) → nth_position p n xs ≡ None → count_by p xs ≤ n
nth_position-None p n [] none = omega arith
nth_position-None p n (x ∷ xs) none = at_first (p x) refl n none (λ m. nth_position-None p m xs)
  where
    before : (o : Option ℕ) → option_map (λ j. j + 1) o ≡ None → o ≡ None
    before None none = refl
    before (Some j) none = cc

    at_first : (b : Bool) → p x ≡ b → (m : ℕ) → nth_position p m (x ∷ xs) ≡ None → ((k : ℕ) → nth_position p k xs ≡ None → count_by p xs ≤ k) → count_by p (x ∷ xs) ≤ m
    at_first true passes zero none rest = absurd (let e : Some 0 ≡ None = rw passes at none in cc)
    at_first true passes (suc m) none rest = rw (sum_by-cons (λ y. cond (p y) 1 0) x xs, passes) (omega (arith, rest m (before _ (rw passes at none))))
    at_first false skip m none rest = rw (sum_by-cons (λ y. cond (p y) 1 0) x xs, skip) (omega (arith, rest m (before _ (sym (nth_position-skip p m x xs skip) ∙ none))))
