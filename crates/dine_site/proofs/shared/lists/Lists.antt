-- Forks that are taken and put back, place by place.
use Rattle.std.proofs.Common.{◌≡◌, ℕ, zero, suc, ◌+◌, ◌-◌, ◌<◌, ◌≤◌, List, [], ◌∷◌, ◌++◌, length, map, take, drop, set, get_or, option_to_list, Option, Some, None, refl, sym, ◌∙◌, ap, arith, append_assoc, append-nil, length-append, add-one}
use Rattle.std.proofs.lemmas.List.{get_or-append_right, get_or-drop, length-take-le, length-map, take_all, take_more, take-append-le, take-take, get_or-take}
use Rattle.dine_token.specs.Fork.{SeenFork}
use Rattle.dine_site.specs.declared.site.places.Place.{Place}
use Rattle.dine_site.specs.declared.site.places.ForkSlot.{ForkSlot}
use Rattle.dine_site.specs.declared.site.places.ForkSlot.TheVariants.{Away, Here, InMeal}
use Rattle.dine_site.specs.Places.{OnHere, fork_in_hand, forks_of, tokens_of, places_with_forks, with_fork}

pub forks_of-append : (xs ys : List Place) → forks_of (xs ++ ys) ≡ forks_of xs ++ forks_of ys
forks_of-append [] ys = refl
forks_of-append (x ∷ xs) ys = ap (λ (l : List SeenFork). fork_in_hand x.fork ++ l) (forks_of-append xs ys) ∙ sym (append_assoc (fork_in_hand x.fork) (forks_of xs) (forks_of ys))

pub tokens_of-append : (xs ys : List Place) → tokens_of (xs ++ ys) ≡ tokens_of xs ++ tokens_of ys
tokens_of-append [] ys = refl
tokens_of-append (x ∷ xs) ys = ap (λ (l : List ℕ). option_to_list x.token ++ l) (tokens_of-append xs ys) ∙ sym (append_assoc (option_to_list x.token) (tokens_of xs) (tokens_of ys))

-- one place more
pub forks_of-more : (xs : List Place) (i : ℕ) (d : Place) → i < length xs → forks_of (take (i + 1) xs) ≡ forks_of (take i xs) ++ fork_in_hand (get_or xs i d).fork
forks_of-more xs i d h = ap forks_of (take_more xs i d h) ∙ forks_of-append (take i xs) (get_or xs i d ∷ []) ∙ ap (λ (l : List SeenFork). forks_of (take i xs) ++ l) (append-nil (fork_in_hand (get_or xs i d).fork))

pub tokens_of-more : (xs : List Place) (i : ℕ) (d : Place) → i < length xs → tokens_of (take (i + 1) xs) ≡ tokens_of (take i xs) ++ option_to_list (get_or xs i d).token
tokens_of-more xs i d h = ap tokens_of (take_more xs i d h) ∙ tokens_of-append (take i xs) (get_or xs i d ∷ []) ∙ ap (λ (l : List ℕ). tokens_of (take i xs) ++ l) (append-nil (option_to_list (get_or xs i d).token))

one_fork : (slot : ForkSlot) → length (fork_in_hand slot) ≤ 1
one_fork Away = omega arith
one_fork (Here fork) = omega arith
one_fork (InMeal meals) = omega arith

-- no more forks and tokens than places
pub forks_of-few : (xs : List Place) → length (forks_of xs) ≤ length xs
forks_of-few [] = omega arith
forks_of-few (x ∷ xs) = omega (arith, one_fork x.fork, forks_of-few xs, length-append (fork_in_hand x.fork) (forks_of xs))

one_token : (token : Option ℕ) → length (option_to_list token) ≤ 1
one_token None = omega arith
one_token (Some edge) = omega arith

pub tokens_of-few : (xs : List Place) → length (tokens_of xs) ≤ length xs
tokens_of-few [] = omega arith
tokens_of-few (x ∷ xs) = omega (arith, one_token x.token, tokens_of-few xs, length-append (option_to_list x.token) (tokens_of xs))

-- the fork of a place that has one in hand
pub fork_is : (slot : ForkSlot) (held : SeenFork) → OnHere (λ fork. held ≡ fork) slot → fork_in_hand slot ≡ held ∷ []
fork_is Away held h = absurd h
fork_is (Here fork) held h = ap (λ (f : SeenFork). f ∷ []) (sym h)
fork_is (InMeal meals) held h = absurd h

-- behind the places that were changed stand the others as they came
pub get_or-map_over : {X : Type 0} (f : X → X) (xs ys : List X) (i : ℕ) (d : X) → i < length xs → ys ≡ map f (take i xs) ++ drop i xs → get_or ys i d ≡ get_or xs i d
get_or-map_over f xs ys i d within is =
    let size : length (map f (take i xs)) ≡ i = length-map (take i xs) f ∙ length-take-le i xs (omega arith) in
    ap (λ l. get_or l i d) is ∙ get_or-append_right (map f (take i xs)) (drop i xs) i i d size (omega arith) ∙ get_or-drop i xs (i - i) d ∙ ap (λ (n : ℕ). get_or xs n d) (omega arith)

-- the last fork in hand is laid down at the last place that waits for one
pub laid_more : (m : ℕ) (places : List Place) (forks : List SeenFork) (p : Place) (f : SeenFork) → m < length places → m < length forks
    → set (take (suc m) places ++ places_with_forks (drop (suc m) places) (drop (suc m) forks)) m (with_fork (Here (get_or forks m f)) (get_or places m p)) ≡ take m places ++ places_with_forks (drop m places) (drop m forks)
laid_more m [] forks p f h k = absurd (omega arith)
laid_more m (place ∷ places) [] p f h k = absurd (omega arith)
laid_more zero (place ∷ places) (fork ∷ forks) p f h k = refl
laid_more (suc m) (place ∷ places) (fork ∷ forks) p f h k = ap (λ (l : List Place). place ∷ l) (laid_more m places forks p f (omega arith) (omega arith))

-- lists that agree from i on
pub same_at : (xs ys : List Place) (i : ℕ) (d : Place) → drop i ys ≡ drop i xs → get_or ys i d ≡ get_or xs i d
same_at xs ys i d h =
    let here : i + 0 ≡ i = omega arith in
    let mine : get_or (drop i ys) 0 d ≡ get_or ys i d = get_or-drop i ys 0 d ∙ ap (λ (n : ℕ). get_or ys n d) here in
    let other : get_or (drop i xs) 0 d ≡ get_or xs i d = get_or-drop i xs 0 d ∙ ap (λ (n : ℕ). get_or xs n d) here in
    sym mine ∙ ap (λ (l : List Place). get_or l 0 d) h ∙ other

drop-past : (i : ℕ) (ys : List Place) (v : Place) → drop (suc i) (set ys i v) ≡ drop (suc i) ys
drop-past i [] v = refl
drop-past zero (y ∷ ys) v = refl
drop-past (suc i) (y ∷ ys) v = drop-past i ys v

drop-one_more : (i : ℕ) (ys : List Place) → drop (suc i) ys ≡ drop 1 (drop i ys)
drop-one_more zero ys = refl
drop-one_more (suc i) [] = refl
drop-one_more (suc i) (y ∷ ys) = drop-one_more i ys

pub same_behind : (xs ys : List Place) (i : ℕ) (v : Place) → drop i ys ≡ drop i xs → drop (i + 1) (set ys i v) ≡ drop (i + 1) xs
same_behind xs ys i v h =
    let next : i + 1 ≡ suc i = omega arith in
    ap (λ (n : ℕ). drop n (set ys i v)) next ∙ drop-past i ys v ∙ drop-one_more i ys ∙ ap (drop 1) h ∙ sym (drop-one_more i xs) ∙ ap (λ (n : ℕ). drop n xs) (sym next)

get_or_front : (m : ℕ) (P X : List Place) (d : Place) → m < length P → get_or (take (suc m) P ++ X) m d ≡ get_or P m d
get_or_front m [] X d h = absurd (omega arith)
get_or_front zero (p ∷ P) X d h = refl
get_or_front (suc m) (p ∷ P) X d h = get_or_front m P X d (omega arith)

-- a fork is taken from the end of the hands, and laid down at its place
pub laid_step : (places P : List Place) (hands rest F : List SeenFork) (r : SeenFork) (d : Place) → hands ≡ rest ++ r ∷ [] → hands ≡ take (length hands) F
    → places ≡ take (length hands) P ++ places_with_forks (drop (length hands) P) (drop (length hands) F) → length hands ≤ length P → length F ≡ length P
    → (rest ≡ take (length rest) F)
    × (set places (length rest) (with_fork (Here r) (get_or places (length rest) d)) ≡ take (length rest) P ++ places_with_forks (drop (length rest) P) (drop (length rest) F))
    × (length rest ≤ length P)
laid_step places P hands rest F r d split first laid few same =
    let m : ℕ = length rest in
    let longer : length hands ≡ suc m = ap length split ∙ length-append rest (r ∷ []) ∙ add-one m in
    let front : take (suc m) F ≡ rest ++ r ∷ [] = ap (λ (n : ℕ). take n F) (sym longer) ∙ sym first ∙ split in
    let within : m < length F = omega (arith, longer, few, same) in
    let one : m ≤ suc m = omega arith in
    let back : take m (rest ++ r ∷ []) ≡ rest = take-append-le m rest (r ∷ []) (omega arith) ∙ take_all m rest (omega arith) in
    let rest_is : rest ≡ take m F = sym back ∙ ap (take m) (sym front) ∙ take-take m (suc m) F one in
    let zero_is : m - m ≡ 0 = omega arith in
    let last : get_or (rest ++ r ∷ []) m r ≡ r = get_or-append_right rest (r ∷ []) m m r refl (omega arith) ∙ ap (λ (n : ℕ). get_or (r ∷ []) n r) zero_is in
    let r_is : get_or F m r ≡ r = sym (get_or-take (suc m) F m r (omega arith)) ∙ ap (λ (l : List SeenFork). get_or l m r) front ∙ last in
    let places_is : places ≡ take (suc m) P ++ places_with_forks (drop (suc m) P) (drop (suc m) F) = laid ∙ ap (λ (n : ℕ). take n P ++ places_with_forks (drop n P) (drop n F)) longer in
    let in_P : m < length P = omega (arith, longer, few) in
    let p_is : get_or places m d ≡ get_or P m d = ap (λ (l : List Place). get_or l m d) places_is ∙ get_or_front m P (places_with_forks (drop (suc m) P) (drop (suc m) F)) d in_P in (
      rest_is,
      ap (λ (l : List Place). set l m (with_fork (Here r) (get_or places m d))) places_is
          ∙ ap (λ (p : Place). set (take (suc m) P ++ places_with_forks (drop (suc m) P) (drop (suc m) F)) m (with_fork (Here r) p)) p_is
          ∙ ap (λ (f : SeenFork). set (take (suc m) P ++ places_with_forks (drop (suc m) P) (drop (suc m) F)) m (with_fork (Here f) (get_or P m d))) (sym r_is)
          ∙ laid_more m P F d r in_P within,
      omega arith,
    )

-- an element of a list that each is mapped in
pub get_or-map_at : {X Y : Type 0} (f : X → Y) (xs : List X) (i : ℕ) (d : Y) (e : X) → i < length xs → get_or (map f xs) i d ≡ f (get_or xs i e)
get_or-map_at f [] i d e h = absurd (omega arith)
get_or-map_at f (x ∷ xs) zero d e h = refl
get_or-map_at f (x ∷ xs) (suc i) d e h = get_or-map_at f xs i d e (omega arith)
