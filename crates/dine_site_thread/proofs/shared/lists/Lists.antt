-- Lists of which one element is written.
use Rattle.std.proofs.Common.{◌≡◌, ◌≢◌, ℕ, zero, suc, ◌+◌, ◌<◌, ◌⊎◌, Bool, true, ◌&&◌, List, [], ◌∷◌, set, Some, refl, sym, ◌∙◌, ap, subst, inl, inr, arith}
use Rattle.std.specs.List.{slice_get, list_all, range_with_len, All}
use Rattle.std.proofs.lemmas.Option.{slice_get_within, get_or_from_slice_get, none-some, same_Some}
use Rattle.std.proofs.lemmas.Bool.{and_parts}

-- an element of the written list is the one written, or is another and as it was
pub get-set : {A : Type 0} (xs : List A) (i : ℕ) (a : A) (j : ℕ) (b : A) → slice_get (set xs i a) j ≡ Some b → ((j ≡ i) × (b ≡ a)) ⊎ ((j ≡ i → ⊥) × (slice_get xs j ≡ Some b))
get-set [] i a j b h = absurd (none-some b h)
get-set (x ∷ xs) zero a zero b h = inl (refl, same_Some b a (sym h))
get-set (x ∷ xs) zero a (suc j) b h = inr ((λ e. absurd (omega (arith, e))), h)
get-set (x ∷ xs) (suc i) a zero b h = inr ((λ e. absurd (omega (arith, e))), h)
get-set (x ∷ xs) (suc i) a (suc j) b h = elim (get-set xs i a j b h) [
  | inl w ↦ inl (ap (λ (n : ℕ). suc n) w.0, w.1)
  | inr w ↦ inr ((λ e. w.0 (omega (arith, e))), w.1)
]

pub get-set_same : {A : Type 0} (xs : List A) (i : ℕ) (a b : A) → slice_get xs i ≡ Some a → slice_get (set xs i b) i ≡ Some b
get-set_same [] i a b h = absurd (none-some a h)
get-set_same (x ∷ xs) zero a b h = refl
get-set_same (x ∷ xs) (suc i) a b h = get-set_same xs i a b h

pub get-set_other : {X : Type 0} (xs : List X) (i j : ℕ) (b : X) → i ≢ j → slice_get (set xs i b) j ≡ slice_get xs j
get-set_other [] i j b differ = refl
get-set_other (x ∷ xs) zero zero b differ = absurd (differ refl)
get-set_other (x ∷ xs) zero (suc j) b differ = refl
get-set_other (x ∷ xs) (suc i) zero b differ = refl
get-set_other (x ∷ xs) (suc i) (suc j) b differ = get-set_other xs i j b (λ same. differ (ap suc same))

-- a write of what stands there changes nothing
pub set-get : {A : Type 0} (xs : List A) (i : ℕ) (a : A) → slice_get xs i ≡ Some a → set xs i a ≡ xs
set-get [] i a h = refl
set-get {A} (x ∷ xs) zero a h = ap (λ (y : A). y ∷ xs) (sym (same_Some x a h))
set-get {A} (x ∷ xs) (suc i) a h = ap (λ (ys : List A). x ∷ ys) (set-get xs i a h)

-- a weaker test of all numbers of a range, and a test that each of them passes
pub list_all-weaker : {A : Type 0} (p q : A → Bool) → ((a : A) → p a ≡ true → q a ≡ true) → (xs : List A) → list_all p xs ≡ true → list_all q xs ≡ true
list_all-weaker p q weaker [] h = refl
list_all-weaker p q weaker (x ∷ xs) h =
    let parts = and_parts (p x) (list_all p xs) h in
    ap (λ (b : Bool). b && list_all q xs) (weaker x parts.0) ∙ list_all-weaker p q weaker xs parts.1

pub list_all-each : (q : ℕ → Bool) (first n : ℕ) → ((i : ℕ) → i < first + n → q i ≡ true) → list_all q (range_with_len first n) ≡ true
list_all-each q first zero each = refl
list_all-each q first (suc n) each =
    ap (λ (b : Bool). b && list_all q (range_with_len (first + 1) n)) (each first (omega arith)) ∙ list_all-each q (first + 1) n (λ i within. each i (omega arith))

-- what is so of each element is so of the one that is read
pub all_at : {A : Type 0} (P : A → Type 0) (xs : List A) (i : ℕ) (a : A) → All P xs → slice_get xs i ≡ Some a → P a
all_at P xs i a all h = subst P (get_or_from_slice_get xs i a a h) (all i a (slice_get_within xs i a h))
