-- Lists that have each element once.
use Rattle.std.proofs.Common.{◌≡◌, ◌⊎◌, ℕ, zero, suc, Bool, List, [], ◌∷◌, ◌++◌, filter, slice_get, Some, refl, sym, ◌∙◌, ap, subst, inl, inr, arith}
use Rattle.std.proofs.lemmas.Bool.{cases_Bool, cond-false, cond-true}

-- x stands in the list
abbrev pub StandsIn : {X : Type 0} → X → List X → Type 0
StandsIn x xs = (n : ℕ) × (slice_get xs n ≡ Some x)

-- the list has no element at two places
abbrev pub EachOnce : {X : Type 0} → List X → Type 0
EachOnce xs = (n m : ℕ) (x : _) → slice_get xs n ≡ Some x → slice_get xs m ≡ Some x → n ≡ m

-- an element of two lists is one of the first or of the second
pub of_either : {X : Type 0} (x : X) (xs ys : List X) → StandsIn x (xs ++ ys) → StandsIn x xs ⊎ StandsIn x ys
of_either x [] ys h = inr h
of_either x (y ∷ xs) ys (zero, is) = inl (zero, is)
of_either x (y ∷ xs) ys (suc n, is) = elim (of_either x xs ys (n, is)) [
  | inl w ↦ inl (suc w.0, w.1)
  | inr w ↦ inr w
]

-- an element of a list that is within another stays one behind the same first element
behind_first : {X : Type 0} (x y : X) (xs ys : List X) → (StandsIn x xs → StandsIn x ys) → StandsIn x (y ∷ xs) → StandsIn x (y ∷ ys)
behind_first x y xs ys within (zero, is) = (zero, is)
behind_first x y xs ys within (suc n, is) = let w = within (n, is) in (suc w.0, w.1)

-- what a test lets through stands in the list
of_filter : {X : Type 0} (p : X → Bool) (x : X) (xs : List X) → StandsIn x (filter p xs) → StandsIn x xs
of_filter p x [] h = h
of_filter p x (y ∷ xs) h = elim (cases_Bool (p y)) [
  | inl passes ↦ behind_first x y (filter p xs) xs (of_filter p x xs) (subst (StandsIn x) (cond-true (p y) (y ∷ filter p xs) (filter p xs) passes) h)
  | inr fails ↦ let w = of_filter p x xs (subst (StandsIn x) (cond-false (p y) (y ∷ filter p xs) (filter p xs) fails) h) in (suc w.0, w.1)
]

module _ {X : Type 0} where
  -- the first is not in the rest, which has each once too
  first_apart : (x : X) (xs : List X) → EachOnce (x ∷ xs) → StandsIn x xs → ⊥
  first_apart x xs once (m, is) = let e : zero ≡ suc m = once zero (suc m) x refl is in absurd (omega (arith, e))

  once_rest : (x : X) (xs : List X) → EachOnce (x ∷ xs) → EachOnce xs
  once_rest x xs once n m y a b = let e : suc n ≡ suc m = once (suc n) (suc m) y a b in omega (arith, e)

  -- and the converse
  once_cons : (x : X) (xs : List X) → (StandsIn x xs → ⊥) → EachOnce xs → EachOnce (x ∷ xs)
  once_cons x xs apart once zero zero y a b = refl
  once_cons x xs apart once zero (suc m) y a b = absurd (apart (m, b ∙ sym a))
  once_cons x xs apart once (suc n) zero y a b = absurd (apart (n, a ∙ sym b))
  once_cons x xs apart once (suc n) (suc m) y a b = ap suc (once n m y a b)

  -- so it is of what a test lets through
  pub once_filter : (p : X → Bool) (xs : List X) → EachOnce xs → EachOnce (filter p xs)
  once_filter p [] once = once
  once_filter p (x ∷ xs) once = elim (cases_Bool (p x)) [
    | inl passes ↦ subst EachOnce (sym (cond-true (p x) (x ∷ filter p xs) (filter p xs) passes))
        (once_cons x (filter p xs) (λ h. first_apart x xs once (of_filter p x xs h)) (once_filter p xs (once_rest x xs once)))
    | inr fails ↦ subst EachOnce (sym (cond-false (p x) (x ∷ filter p xs) (filter p xs) fails)) (once_filter p xs (once_rest x xs once))
  ]

  -- and of two lists that have no element in common
  pub once_append : (xs ys : List X) → EachOnce xs → EachOnce ys → ((x : X) → StandsIn x xs → StandsIn x ys → ⊥) → EachOnce (xs ++ ys)
  once_append [] ys once others apart = others
  once_append (x ∷ xs) ys once others apart = once_cons x (xs ++ ys)
      (λ h. elim (of_either x xs ys h) [
        | inl w ↦ first_apart x xs once w
        | inr w ↦ apart x (zero, refl) w
      ])
      (once_append xs ys (once_rest x xs once) others (λ y a b. apart y (suc a.0, a.1) b))
