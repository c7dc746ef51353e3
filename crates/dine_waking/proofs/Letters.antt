-- Letters that come to a site one after the other.
use Rattle.std.proofs.Common.{◌≡◌, ◌≢◌, ℕ, ◌+◌, ◌<◌, ◌==◌, Bool, true, false, cond, List, [], ◌∷◌, ◌++◌, length, map, count_by, refl, sym, ◌∙◌, ap, arith, if◌then◌else◌}
use Rattle.std.proofs.lemmas.Bool.{cond-true, cond-false, eq-eqb, ne_eqb}
use Rattle.std.proofs.lemmas.List.Sums.{sum_by-cons}
use Rattle.dine_rules.specs.declared.letters.Letter.{Letter}
use Rattle.dine_rules.specs.Letters.{kind_of}
use Rattle.dine_rules.specs.Wants.{SeenWants, is_wanted, still_wanted}
use Rattle.dine_waking.specs.Sleeping.{ArePlacesBelow, ComeUnwanted, Coming, letters_coming_at}

-- the first letter comes at its place, and not at another
pub first_at : (first : Coming) (coming : List Coming) → letters_coming_at first.place (first ∷ coming) ≡ first.letter ∷ letters_coming_at first.place coming
first_at first coming = cond-true (first.place == first.place) (first.letter ∷ letters_coming_at first.place coming) (letters_coming_at first.place coming) (eq-eqb first.place first.place refl)

pub first_elsewhere : (i : ℕ) (first : Coming) (coming : List Coming) → i ≢ first.place → letters_coming_at i (first ∷ coming) ≡ letters_coming_at i coming
first_elsewhere i first coming other = cond-false (first.place == i) (first.letter ∷ letters_coming_at i coming) (letters_coming_at i coming) (ne_eqb first.place i (λ same. other (sym same)))

-- one letter more behind the others
module _ (one : Coming) where
  pub letters_more : (i : ℕ) (coming : List Coming) → letters_coming_at i (coming ++ one ∷ []) ≡ letters_coming_at i coming ++ letters_coming_at i (one ∷ [])
  letters_more i [] = refl
  letters_more i (first ∷ coming) = behind (first.place == i) (letters_coming_at i (coming ++ one ∷ [])) (letters_coming_at i coming) (letters_more i coming)
    where
      behind : (b : Bool) (all front : List Letter) → all ≡ front ++ letters_coming_at i (one ∷ [])
          → (if b then first.letter ∷ all else all) ≡ (if b then first.letter ∷ front else front) ++ letters_coming_at i (one ∷ [])
      behind true all front is = ap (λ (letters : List Letter). first.letter ∷ letters) is
      behind false all front is = is

  pub letter_here : (i : ℕ) (coming : List Coming) → one.place ≡ i → letters_coming_at i (coming ++ one ∷ []) ≡ letters_coming_at i coming ++ one.letter ∷ []
  letter_here i coming here = letters_more i coming ∙ ap (λ (letters : List Letter). letters_coming_at i coming ++ letters)
      (cond-true (one.place == i) (one.letter ∷ []) [] (eq-eqb one.place i here))

  pub letter_elsewhere : (i : ℕ) (coming : List Coming) → one.place ≢ i → letters_coming_at i (coming ++ one ∷ []) ≡ letters_coming_at i coming ++ []
  letter_elsewhere i coming other = letters_more i coming ∙ ap (λ (letters : List Letter). letters_coming_at i coming ++ letters)
      (cond-false (one.place == i) (one.letter ∷ []) [] (ne_eqb one.place i other))

  pub numbers_more : (coming : List Coming) → map (λ (c : Coming). c.place) (coming ++ one ∷ []) ≡ map (λ (c : Coming). c.place) coming ++ one.place ∷ []
  numbers_more [] = refl
  numbers_more (first ∷ coming) = ap (λ (numbers : List ℕ). first.place ∷ numbers) (numbers_more coming)

  pub places_more : (n : ℕ) (coming : List Coming) → one.place < n → ArePlacesBelow n coming → ArePlacesBelow n (coming ++ one ∷ [])
  places_more n [] below places = (below, tt)
  places_more n (first ∷ coming) below places = (places.0, places_more n coming below places.1)

  pub come_more : (wants : SeenWants) (coming : List Coming) (last : SeenWants) → ComeUnwanted wants coming last → is_wanted last one.place (kind_of one.letter) ≡ false
      → ComeUnwanted wants (coming ++ one ∷ []) (still_wanted last (kind_of one.letter))
  come_more wants [] last come unwanted = (ap (λ (w : SeenWants). is_wanted w one.place (kind_of one.letter)) come ∙ unwanted, ap (λ (w : SeenWants). still_wanted w (kind_of one.letter)) come)
  come_more wants (first ∷ coming) last come unwanted = (come.0, come_more (still_wanted wants (kind_of first.letter)) coming last come.1 unwanted)

-- as many letters come at a place as rings have its number
pub count_letters : (i : ℕ) (coming : List Coming) → length (letters_coming_at i coming) ≡ count_by (λ k. k == i) (map (λ (c : Coming). c.place) coming)
count_letters i [] = refl
count_letters i (first ∷ coming) =
    let numbers : List ℕ = map (λ (c : Coming). c.place) coming in
    by_test (first.place == i) (letters_coming_at i coming) (count_by (λ k. k == i) numbers) (count_letters i coming) ∙ sym (sum_by-cons (λ k. cond (k == i) 1 0) first.place numbers)
  where
    by_test : (b : Bool) (letters : List Letter) (n : ℕ) → length letters ≡ n → length (if b then first.letter ∷ letters else letters) ≡ cond b 1 0 + n
    by_test true letters n is = omega (arith, is)
    by_test false letters n is = omega (arith, is)
