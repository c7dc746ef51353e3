-- The index of the sites' names, name by name.
use Rattle.std.proofs.Common.{◌≡◌, ℕ, suc, ◌+◌, ◌<◌, ◌≤◌, Bool, true, false, not, cond, ltb, List, [], ◌∷◌, ◌++◌, length, take, get_or, option_map, Option, Some, None, IfSome, unwrap_or, is_some, inl, inr, refl, sym, ap, subst, ◌∙◌, arith}
use Rattle.std.specs.List.{position, position_or_len}
use Rattle.std.specs.Map.{update}
use Rattle.std.specs.Option.{option_or}
use Rattle.std.specs.Str.{bytes_eq}
use Rattle.std.proofs.lemmas.Bool.{cases_lt, cases_Bool, lt-ltb, le-ltb, false≢true}
use Rattle.std.proofs.lemmas.List.{length-take-le, take_more}
use Rattle.std.proofs.lemmas.List.Quantifiers.{position-Some}
use Rattle.std.proofs.lemmas.Slice.Eq.{bytes_eq-Decides}

-- the position in a list by the one in its tail
position_by : (b : Bool) (n m : ℕ) → cond (ltb (cond (not b) (1 + n) 0) (suc m)) (Some (cond (not b) (1 + n) 0)) None ≡ cond b (Some 0) (option_map suc (cond (ltb n m) (Some n) None))
position_by true n m = rw (lt-ltb 0 (suc m) (omega arith)) refl
position_by false n m =
    let more : 1 + n ≡ suc n = omega arith in
    elim (cases_lt n m) [
      | inl within ↦ rw (lt-ltb n m within, lt-ltb (1 + n) (suc m) (omega arith)) (ap Some more)
      | inr past ↦ rw (le-ltb n m past, le-ltb (1 + n) (suc m) (omega arith)) refl
    ]

position_step : {X : Type 0} (p : X → Bool) (x : X) (xs : List X) (b : Bool) → p x ≡ b → position p (x ∷ xs) ≡ cond b (Some 0) (option_map suc (position p xs))
position_step p x xs b is = position_by (p x) (position_or_len p xs) (length xs) ∙ ap (λ c. cond c (Some 0) (option_map suc (position p xs))) is

-- the first position after one element more, which is one before if there is one
position_more_by : {X : Type 0} (p : X → Bool) (x y : X) (xs : List X) (b : Bool) → p x ≡ b → position p (xs ++ y ∷ []) ≡ option_or (position p xs) (cond (p y) (Some (length xs)) None)
    → position p (x ∷ (xs ++ y ∷ [])) ≡ option_or (position p (x ∷ xs)) (cond (p y) (Some (suc (length xs))) None)
position_more_by p x y xs true passes rest = rw (position_step p x xs true passes, position_step p x (xs ++ y ∷ []) true passes) refl
position_more_by p x y xs false fails rest =
    position_step p x (xs ++ y ∷ []) false fails ∙ ap (option_map suc) rest ∙ later (position p xs) (p y) (length xs) ∙ sym (ap (λ o. option_or o (cond (p y) (Some (suc (length xs))) None)) (position_step p x xs false fails)) where
      later : (o : Option ℕ) (b : Bool) (n : ℕ) → option_map suc (option_or o (cond b (Some n) None)) ≡ option_or (option_map suc o) (cond b (Some (suc n)) None)
      later (Some i) b n = refl
      later None true n = refl
      later None false n = refl

pub position_more : {X : Type 0} (p : X → Bool) (xs : List X) (y : X) → position p (xs ++ y ∷ []) ≡ option_or (position p xs) (cond (p y) (Some (length xs)) None)
position_more p [] y = only (p y) refl where
  only : (b : Bool) → p y ≡ b → position p (y ∷ []) ≡ cond (p y) (Some 0) None
  only true passes = rw passes refl
  only false fails = rw fails refl
position_more p (x ∷ xs) y = position_more_by p x y xs (p x) refl (position_more p xs y)

at_most_by : (b : Bool) (n m : ℕ) → n ≤ m → cond (not b) (1 + n) 0 ≤ suc m
at_most_by true n m rest = omega arith
at_most_by false n m rest = omega (arith, rest)

at_most : {X : Type 0} (p : X → Bool) (xs : List X) → position_or_len p xs ≤ length xs
at_most p [] = omega arith
at_most p (x ∷ xs) = at_most_by (p x) (position_or_len p xs) (length xs) (at_most p xs)

or_length : (n m : ℕ) → n ≤ m → unwrap_or (cond (ltb n m) (Some n) None) m ≡ n
or_length n m most =
    elim (cases_lt n m) [
      | inl within ↦ rw (lt-ltb n m within) refl
      | inr past ↦
          let same : m ≡ n = omega (arith, most, past) in
          rw (le-ltb n m past) same
    ]

-- the first position, or else the length
pub position_or_length : {X : Type 0} (p : X → Bool) (xs : List X) → unwrap_or (position p xs) (length xs) ≡ position_or_len p xs
position_or_length p xs = or_length (position_or_len p xs) (length xs) (at_most p xs)

-- the first position among one name more
pub position_name_more : (q name : List ℕ) (names : List (List ℕ)) (i : ℕ) (d : List ℕ) → i < length names → get_or names i d ≡ name → position (bytes_eq q) (take (i + 1) names) ≡ option_or (position (bytes_eq q) (take i names)) (cond (bytes_eq q name) (Some i) None)
position_name_more q name names i d within at =
    let long : length (take i names) ≡ i = length-take-le i names (omega arith) in
    ap (position (bytes_eq q)) (take_more names i d within) ∙ position_more (bytes_eq q) (take i names) (get_or names i d)
    ∙ ap (λ y. option_or (position (bytes_eq q) (take i names)) (cond (bytes_eq q y) (Some (length (take i names))) None)) at
    ∙ ap (λ n. option_or (position (bytes_eq q) (take i names)) (cond (bytes_eq q name) (Some n) None)) long

same_text : (q name : List ℕ) → bytes_eq q name ≡ true → q ≡ name
same_text q name same = (bytes_eq-Decides q name).0 same

-- a name that the index has changes nothing
pub known_name : (q name : List ℕ) (o : List ℕ → Option ℕ) (i : ℕ) → is_some (o name) ≡ true → o q ≡ option_or (o q) (cond (bytes_eq q name) (Some i) None)
known_name q name o i known =
    elim (cases_Bool (bytes_eq q name)) [
      | inl same ↦ rw (same_text q name same) (there (o name) _ known)
      | inr differ ↦ rw differ (nothing (o q))
    ] where
      there : (a b : Option ℕ) → is_some a ≡ true → a ≡ option_or a b
      there (Some x) b h = refl
      there None b h = absurd (cc)

      nothing : (a : Option ℕ) → a ≡ option_or a None
      nothing (Some x) = refl
      nothing None = refl

differ_back : (q name : List ℕ) (b : Bool) → bytes_eq name q ≡ b → bytes_eq q name ≡ false → bytes_eq name q ≡ false
differ_back q name true same differ = absurd (false≢true (sym differ ∙ (bytes_eq-Decides q name).1 (sym (same_text name q same))))
differ_back q name false same differ = same

-- a new name has its place
pub new_name : (q name : List ℕ) (o : List ℕ → Option ℕ) (i : ℕ) → is_some (o name) ≡ false → update bytes_eq o name (Some i) q ≡ option_or (o q) (cond (bytes_eq q name) (Some i) None)
new_name q name o i unknown =
    elim (cases_Bool (bytes_eq q name)) [
      | inl same ↦
          let q_is = same_text q name same in
          let here : bytes_eq name q ≡ true = (bytes_eq-Decides name q).1 (sym q_is) in
          rw (here, same) (none (o q) (subst (λ x. is_some (o x) ≡ false) (sym q_is) unknown))
      | inr differ ↦ rw (differ_back q name (bytes_eq name q) refl differ, differ) (nothing (o q))
    ] where
      none : (a : Option ℕ) → is_some a ≡ false → Some i ≡ option_or a (Some i)
      none (Some x) h = absurd (cc)
      none None h = refl

      nothing : (a : Option ℕ) → a ≡ option_or a None
      nothing (Some x) = refl
      nothing None = refl

-- a first position is one of the list
pub position_within : {X : Type 0} (p : X → Bool) (xs : List X) (d : X) (n : ℕ) (o : Option ℕ) → o ≡ position p xs → length xs ≤ n → IfSome o (λ i. i ≤ n)
position_within p xs d n None is most = tt
position_within p xs d n (Some i) is most =
    let within : i < length xs = (position-Some p xs i d (sym is)).0 in
    omega (arith, within, most)
