-- The places that a test marks are those that the numbers of the places find.
use Rattle.std.proofs.Common.{◌≤◌, replicate, ◌≡◌, ℕ, zero, suc, ◌+◌, ◌<◌, ◌&&◌, Bool, true, false, cond, position, count_by, List, [], ◌∷◌, length, get_or, slice_get, Option, Some, None, refl, sym, ◌∙◌, ap, arith}
use Rattle.std.specs.List.{filter, find, range_with_len}
use Rattle.std.specs.Option.{option_map}
use Rattle.std.proofs.lemmas.List.Sums.{sum_by-cons}
use Rattle.dine_set.specs.Marks.{marks_of, nth_position}
use Rattle.dine_set.proofs.shared.MarksOf.{marks_of-agree, marks_of-none, position-marks_of}
use Rattle.dine_set.proofs.shared.NthPosition.{nth_position-zero}
use Rattle.dine_site.specs.declared.site.places.Place.{Place}
use Rattle.dine_site.specs.Core.{SeenCore}
use Rattle.dine_site.specs.Places.{no_place, place_at}
use Rattle.dine_site.proofs.shared.own_events.NextEvents.{filter_first}

-- a number more, and that by which all are moved
moved_on : (j : ℕ) (o : Option ℕ) → option_map (λ i. j + 1 + i) o ≡ option_map (λ i. j + i) (option_map (λ i. i + 1) o)
moved_on j None = refl
moved_on j (Some i) = ap Some (omega arith)

module _ (test : Place → Bool) where
  -- the numbers that pass q are those of the places that pass the test
  abbrev pub Agrees : (ℕ → Bool) → ℕ → List Place → Type 0
  Agrees q j places = (i : ℕ) → i < length places → q (j + i) ≡ test (get_or places i no_place)

  agrees_behind : (q : ℕ → Bool) (j : ℕ) (place : Place) (places : List Place) → Agrees q j (place ∷ places) → Agrees q (j + 1) places
  agrees_behind q j place places agrees i within = ap q (let e : j + 1 + i ≡ j + suc i = omega arith in e) ∙ agrees (suc i) (omega arith)

  agrees_here : (q : ℕ → Bool) (j : ℕ) (place : Place) (places : List Place) → Agrees q j (place ∷ places) → q j ≡ test place
  agrees_here q j place places agrees = ap q (let e : j ≡ j + 0 = omega arith in e) ∙ agrees 0 (omega arith)

  pub marked_nth : (q : ℕ → Bool) (places : List Place) (j n : ℕ) → Agrees q j places → slice_get (filter q (range_with_len j (length places))) n ≡ option_map (λ i. j + i) (nth_position test n places)
  marked_nth q [] j n agrees = refl
  marked_nth q (place ∷ places) j n agrees =
      at_first (filter q (range_with_len (j + 1) (length places))) (q j) refl (test place) refl (agrees_here q j place places agrees) n (λ m. marked_nth q places (j + 1) m (agrees_behind q j place places agrees) ∙ moved_on j (nth_position test m places))
    where
      at_first : (rest : List ℕ) (b : Bool) → q j ≡ b → (c : Bool) → test place ≡ c → q j ≡ test place → (m : ℕ)
          → ((k : ℕ) → slice_get rest k ≡ option_map (λ i. j + i) (option_map (λ i. i + 1) (nth_position test k places)))
          → slice_get (cond (q j) (j ∷ rest) rest) m ≡ option_map (λ i. j + i) (nth_position test m (place ∷ places))
      at_first rest true here true passes same zero behind = rw (here, passes) (ap Some (omega arith))
      at_first rest true here true passes same (suc m) behind = rw (here, passes) (behind m)
      at_first rest false here false passes same zero behind = rw (here, passes) (behind zero)
      at_first rest false here false passes same (suc m) behind = rw (here, passes) (behind (suc m))
      at_first rest true here false passes same m behind = absurd (let e : true ≡ false = sym here ∙ same ∙ passes in cc)
      at_first rest false here true passes same m behind = absurd (let e : false ≡ true = sym here ∙ same ∙ passes in cc)

  pub marked_count : (q : ℕ → Bool) (places : List Place) (j : ℕ) → Agrees q j places → length (filter q (range_with_len j (length places))) ≡ count_by test places
  marked_count q [] j agrees = refl
  marked_count q (place ∷ places) j agrees =
      let rest : List ℕ = filter q (range_with_len (j + 1) (length places)) in
      let behind : length rest ≡ count_by test places = marked_count q places (j + 1) (agrees_behind q j place places agrees) in
      ap (λ (b : Bool). length (cond b (j ∷ rest) rest)) (agrees_here q j place places agrees)
      ∙ one_more (test place) rest behind
      ∙ sym (sum_by-cons (λ y. cond (test y) 1 0) place places)
    where
      one_more : (b : Bool) (rest : List ℕ) → length rest ≡ count_by test places → length (cond b (j ∷ rest) rest) ≡ cond b 1 0 + count_by test places
      one_more true rest behind = omega (arith, behind)
      one_more false rest behind = omega (arith, behind)

pub as_it_is : (o : Option ℕ) → option_map (λ i. 0 + i) o ≡ o
as_it_is None = refl
as_it_is (Some i) = ap Some (omega arith)

-- the first place that is marked is the first whose number passes
module _ (core : SeenCore) (test : Place → Bool) where
  agree : Agrees test (λ i. test (place_at core i)) 0 core.places
  agree i within = ap (λ (k : ℕ). test (place_at core k)) (let e : 0 + i ≡ i = omega arith in e)

  pub first_marked : (marks : List Bool) → marks ≡ marks_of test core.places → position (λ is_in. is_in) marks ≡ find (λ i. test (place_at core i)) (range_with_len 0 (length core.places))
  first_marked marks are =
      ap (position (λ is_in. is_in)) are ∙ position-marks_of test core.places ∙ sym (nth_position-zero test core.places)
      ∙ sym (as_it_is (nth_position test 0 core.places)) ∙ sym (marked_nth test (λ i. test (place_at core i)) core.places 0 0 agree)
      ∙ filter_first (λ i. test (place_at core i)) (range_with_len 0 (length core.places))

-- a test of places, under a condition: where that is so it marks the same, and where it is not so none
module _ (test : Place → Bool) (places : List Place) (now : Bool) (marks : List Bool) where
  pub marked_now : now ≡ true → marks ≡ marks_of test places → marks ≡ marks_of (λ place. now && test place) places
  marked_now is are = are ∙ marks_of-agree test (λ place. now && test place) (λ place. ap (λ (b : Bool). b && test place) (sym is)) places

  pub none_now : now ≡ false → length places ≤ 64 → marks ≡ replicate 64 false → marks ≡ marks_of (λ place. now && test place) places
  none_now is few none = none ∙ sym (marks_of-none (λ place. now && test place) places few (λ i past within. ap (λ (b : Bool). b && test (get_or places i past)) is))
