-- An element by its place.
use Rattle.std.proofs.Common.{◌≡◌, ℕ, List, [], ◌∷◌, ◌++◌, Some, length, slice_get, refl, sym, ap, ◌∙◌}
use Rattle.std.proofs.lemmas.Option.{same_Some}

-- what stands behind n others is the element at n
at_split : {X : Type 0} (xs ys : List X) (x y : X) → slice_get (xs ++ x ∷ ys) (length xs) ≡ Some y → x ≡ y
at_split [] ys x y at = same_Some x y at
at_split (one ∷ xs) ys x y at = at_split xs ys x y at

-- so it is of a list that is known in two parts
pub at_place : {X : Type 0} (xs rest ys all : List X) (x y : X) (n : ℕ) → xs ++ rest ≡ all → rest ≡ x ∷ ys → length xs ≡ n → slice_get all n ≡ Some y → x ≡ y
at_place xs rest ys all x y n whole split many at =
    at_split xs ys x y (ap (λ l. slice_get (xs ++ l) (length xs)) (sym split) ∙ ap (λ l. slice_get l (length xs)) whole ∙ ap (slice_get all) many ∙ at)

-- what stands behind n others is at n
there_split : {X : Type 0} (xs ys : List X) (x : X) → slice_get (xs ++ x ∷ ys) (length xs) ≡ Some x
there_split [] ys x = refl
there_split (one ∷ xs) ys x = there_split xs ys x

pub there_at : {X : Type 0} (xs rest ys all : List X) (x : X) (n : ℕ) → xs ++ rest ≡ all → rest ≡ x ∷ ys → length xs ≡ n → slice_get all n ≡ Some x
there_at xs rest ys all x n whole split many =
    ap (slice_get all) (sym many) ∙ ap (λ l. slice_get l (length xs)) (sym whole ∙ ap (λ l. xs ++ l) split) ∙ there_split xs ys x
