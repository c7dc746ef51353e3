-- One more pair at the end of two lists that are read side by side.
use Rattle.std.proofs.Common.{All, zero, suc, ◌≡◌, ℕ, slice_get, refl, ◌+◌, Some, IfSome, List, [], ◌∷◌, ◌++◌, map, length, sym, ap, ◌∙◌, subst, append_assoc, arith, length-append, ◌≤◌}
use Rattle.std.proofs.lemmas.List.{map-append, nil_from_length, append-nil, length-map}
use Rattle.std.specs.List.{AllZip}
use Rattle.std.proofs.lemmas.List.Elements.{All-push}
use Rattle.std.proofs.lemmas.Option.{same_Some, none-some}
use Rattle.std.proofs.lemmas.Simd.{map-map}

-- one more pair at the end
pub AllZip-push : {A B : Type 0} (R : A → B → Type 0) (xs : List A) (ys : List B) (x : A) (y : B) → AllZip R xs ys → R x y → AllZip R (xs ++ x ∷ []) (ys ++ y ∷ [])
AllZip-push R [] [] x y all here = (here, tt)
AllZip-push R [] (b ∷ ys) x y all here = absurd all
AllZip-push R (a ∷ xs) [] x y all here = absurd all
AllZip-push R (a ∷ xs) (b ∷ ys) x y all here = (all.0, AllZip-push R xs ys x y all.1 here)

-- where each that may be there is there
pub AllZip-somes : {A B : Type 0} (R : A → B → Type 0) (xs : List A) (ys : List B) → AllZip (λ x o. IfSome o (R x)) xs (map Some ys) → AllZip R xs ys
AllZip-somes R [] [] all = tt
AllZip-somes R [] (y ∷ ys) all = absurd all
AllZip-somes R (x ∷ xs) [] all = absurd all
AllZip-somes R (x ∷ xs) (y ∷ ys) all = (all.0, AllZip-somes R xs ys all.1)

-- one more pair at the end of two lists that grew by it
pub AllZip-grown : {A B : Type 0} (R : A → B → Type 0) (xs : List A) (old new : List B) (x : A) (y : B) → new ≡ old ++ y ∷ [] → R x y → AllZip R xs old → AllZip R (xs ++ x ∷ []) new
AllZip-grown R xs old new x y grown here was = subst (λ ys. AllZip R (xs ++ x ∷ []) ys) (sym grown) (AllZip-push R xs old x y was here)

-- where the first of each is read through f
pub AllZip-mapped : {A B C : Type 0} (f : C → A) (R : A → B → Type 0) (cs : List C) (ys : List B) → AllZip (λ c y. R (f c) y) cs ys → AllZip R (map f cs) ys
AllZip-mapped f R [] [] all = tt
AllZip-mapped f R [] (y ∷ ys) all = absurd all
AllZip-mapped f R (c ∷ cs) [] all = absurd all
AllZip-mapped f R (c ∷ cs) (y ∷ ys) all = (all.0, AllZip-mapped f R cs ys all.1)

-- a loop that moves the first of what is left into a list of what was made of it
pub mapped_split : {S X : Type 0} (f : S → X) (old new : List S) (s : S) (x : X) (before after all : List X) → new ≡ old ++ s ∷ [] → before ≡ x ∷ after → f s ≡ x → map f old ++ before ≡ all → map f new ++ after ≡ all
mapped_split f old new s x before after all grown split here was =
    ap (λ w. map f w ++ after) grown
    ∙ ap (λ w. w ++ after) (map-append f old (s ∷ []))
    ∙ append_assoc (map f old) (f s ∷ []) after
    ∙ ap (λ y. map f old ++ y ∷ after) here
    ∙ ap (λ w. map f old ++ w) (sym split)
    ∙ was

-- where as many were made as there were, nothing is left
pub mapped_all : {S X : Type 0} (f : S → X) (made : List S) (rest all : List X) → map f made ++ rest ≡ all → length all ≤ length made → map f made ≡ all
mapped_all f made rest all split many =
    let lens = ap length split in
    let none : rest ≡ [] = nil_from_length rest (omega (arith, lens, length-append (map f made) rest, length-map made f)) in
    sym (append-nil (map f made)) ∙ ap (λ r. map f made ++ r) (sym none) ∙ split

-- the first of a list whose elements all have P, and the others
pub all_first : {X : Type 0} (P : X → Type 0) (xs ys : List X) (x : X) → xs ≡ x ∷ ys → All P xs → P x
all_first P xs ys x is all = (subst (All P) is all) 0 x (omega arith)

pub all_rest : {X : Type 0} (P : X → Type 0) (xs ys : List X) (x : X) → xs ≡ x ∷ ys → All P xs → All P ys
all_rest P xs ys x is all = λ k d h. (subst (All P) is all) (suc k) d (omega (arith, h))

-- a list with two more
pub two_more : {X : Type 0} (xs old mid new : List X) (a b x y : X) → old ≡ xs → mid ≡ old ++ a ∷ [] → new ≡ mid ++ b ∷ [] → a ≡ x → b ≡ y → new ≡ xs ++ x ∷ y ∷ []
two_more xs old mid new a b x y was first second is_a is_b =
    second ∙ ap (λ l. l ++ b ∷ []) (first ∙ ap (λ l. l ++ a ∷ []) was) ∙ append_assoc xs (a ∷ []) (b ∷ []) ∙ ap (λ v. xs ++ v ∷ b ∷ []) is_a ∙ ap (λ w. xs ++ x ∷ w ∷ []) is_b

-- so it is of elements with P
pub all_two_more : {X : Type 0} (P : X → Type 0) (old mid new : List X) (a b : X) → mid ≡ old ++ a ∷ [] → new ≡ mid ++ b ∷ [] → All P old → P a → P b → All P new
all_two_more P old mid new a b first second was at_a at_b =
    subst (All P) (sym second) (All-push P mid b (subst (All P) (sym first) (All-push P old a was at_a)) at_b)

-- so it is of a list with one more, where each has P
pub all_more : {X : Type 0} (P : X → Type 0) (old new : List X) (x : X) → new ≡ old ++ x ∷ [] → All P old → P x → All P new
all_more P old new x grown was here = subst (All P) (sym grown) (All-push P old x was here)

-- two lists that agree through f and h agree through what is made of that
pub mapped_through : {S T X Y : Type 0} (f : S → X) (h : T → X) (k : X → Y) (xs : List S) (ys : List T) → map f xs ≡ map h ys → map (λ x. k (f x)) xs ≡ map (λ y. k (h y)) ys
mapped_through f h k xs ys same = sym (map-map k f xs) ∙ ap (map k) same ∙ map-map k h ys

-- a pair at a place of the second list
pub AllZip-at : {A B : Type 0} (R : A → B → Type 0) (xs : List A) (ys : List B) (k : ℕ) (y : B) → AllZip R xs ys → slice_get ys k ≡ Some y → (x : A) × (slice_get xs k ≡ Some x) × R x y
AllZip-at R [] [] k y all at = absurd (none-some y at)
AllZip-at R [] (b ∷ ys) k y all at = absurd all
AllZip-at R (a ∷ xs) [] k y all at = absurd all
AllZip-at R (a ∷ xs) (b ∷ ys) zero y all at = (a, refl, subst (R a) (same_Some b y at) all.0)
AllZip-at R (a ∷ xs) (b ∷ ys) (suc k) y all at = AllZip-at R xs ys k y all.1 at
