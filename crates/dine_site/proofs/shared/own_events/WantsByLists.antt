-- What a core waits for, by its places and by the whole lists.
use Rattle.std.proofs.Common.{◌≡◌, ℕ, suc, ◌+◌, ◌-◌, ◌<◌, ◌==◌, ◌&&◌, not, Bool, true, false, List, [], ◌∷◌, ◌++◌, length, map, replicate, get_or, count_by, refl, sym, ◌∙◌, ap, ap₂, arith, if◌then◌else◌, Option, is_some}
use Rattle.std.specs.List.{range_with_len}
use Rattle.std.proofs.lemmas.List.FromFn.{length-range_with_len}
use Rattle.dine_token.specs.Fork.{SeenFork}
use Rattle.dine_token.specs.Log.{is_dirty, meals_of}
use Rattle.dine_set.specs.Marks.{marks_of}
use Rattle.dine_set.proofs.shared.MarksOf.{count_by-marks_of}
use Rattle.dine_graph.specs.Plan.{SeenPlan}
use Rattle.dine_rules.specs.Local.{LocalState, is_eating, neighbour_at}
use Rattle.dine_rules.specs.Holdings.{fork_at, hand_at}
use Rattle.dine_rules.specs.Steps.{hand_fork_at}
use Rattle.dine_rules.specs.Streams.{KeepsStreams}
use Rattle.dine_site.specs.declared.site.places.Place.{Place}
use Rattle.dine_site.specs.declared.site.places.ForkSlot.TheVariants.{Away, Here, InMeal}
use Rattle.dine_site.specs.Core.{SeenCore, Refines}
use Rattle.dine_site.specs.Places.{can_put_off, is_away_at, is_clean_in_hand, is_dirty_at, is_dirty_in_hand, no_place, place_at}
use Rattle.dine_site.specs.Standing.{all_places}
use Rattle.dine_site.specs.CoreWants.{can_put_off_by_lists, has_dirty_fork, lacks_fork}
use Rattle.dine_rules.specs.declared.breach.Breach.{Breach}
use Rattle.dine_rules.specs.declared.letters.Letter.TheVariants as letter
use Rattle.dine_site.proofs.shared.one_site.Breaches.{breach_is}
use Rattle.dine_site.proofs.shared.one_site.SiteTests.{held_is}
use Rattle.dine_site.proofs.shared.one_site.Stands.{place_is}

-- the marks of the places are those of their numbers
map_by : (p : Place → Bool) (q : ℕ → Bool) (places : List Place) (j : ℕ) → ((i : ℕ) → i < length places → p (get_or places i no_place) ≡ q (j + i)) → map p places ≡ map q (range_with_len j (length places))
map_by p q [] j h = refl
map_by p q (place ∷ places) j h =
    let here : p place ≡ q j = h 0 (omega arith) ∙ ap q (let e : j + 0 ≡ j = omega arith in e) in
    ap₂ (λ (b : Bool) (marks : List Bool). b ∷ marks) here
    (map_by p q places (j + 1) (λ i within. h (suc i) (omega arith) ∙ ap q (let e : j + suc i ≡ j + 1 + i = omega arith in e)))

marks_by : (p : Place → Bool) (q : ℕ → Bool) (places : List Place) → ((i : ℕ) → i < length places → p (get_or places i no_place) ≡ q i) → marks_of p places ≡ marks_of q (range_with_len 0 (length places))
unfolding marks_of
marks_by p q places h = ap₂ (λ (marks : List Bool) (n : ℕ). marks ++ replicate (64 - n) false)
    (map_by p q places 0 (λ i within. h i within ∙ ap q (let e : i ≡ 0 + i = omega arith in e))) (sym (length-range_with_len 0 (length places)))

-- a place's fork, in hand and dirty
dirty_test : (eating fork : Bool) (meals : ℕ) (f : SeenFork) → is_dirty_in_hand (if fork then (if eating then InMeal meals else Here f) else Away) ≡ (not eating && fork && is_dirty f.log)
dirty_test true true meals f = refl
dirty_test false true meals f = refl
dirty_test true false meals f = refl
dirty_test false false meals f = refl

-- a place's fork, in hand and clean
clean_test : (eating fork : Bool) (meals : ℕ) (f : SeenFork) → is_clean_in_hand (if fork then (if eating then InMeal meals else Here f) else Away) ≡ (not eating && fork && not (is_dirty f.log))
clean_test true true meals f = refl
clean_test false true meals f = refl
clean_test true false meals f = refl
clean_test false false meals f = refl

module _ (plan : SeenPlan) (state : LocalState) (core : SeenCore) (keeps : KeepsStreams plan core.site state) (stands : Refines plan state core) where
  -- a test of places, and the same of their numbers
  by_numbers : (p : Place → Bool) (q : ℕ → Bool) → ((i : ℕ) → i < length core.places → p (place_at core i) ≡ q i) → marks_of p core.places ≡ marks_of q (all_places state)
  by_numbers p q h = marks_by p q core.places h ∙ ap (λ (n : ℕ). marks_of q (range_with_len 0 n)) stands.degree

  pub dirty_by_lists : marks_of is_dirty_at core.places ≡ marks_of (has_dirty_fork plan core.site state) (all_places state)
  dirty_by_lists = by_numbers is_dirty_at (has_dirty_fork plan core.site state) (λ i within. ap is_dirty_at (place_is plan state core stands i within)
      ∙ dirty_test (is_eating state.phase) (fork_at plan core.site state i == 1) (meals_of (neighbour_at plan core.site i) (hand_at core.site state i)) (hand_fork_at plan core.site state i))

  pub away_by_lists : count_by is_away_at core.places ≡ count_by (lacks_fork plan core.site state) (all_places state)
  away_by_lists =
      sym (count_by-marks_of is_away_at core.places)
      ∙ ap (count_by (λ b. b)) (by_numbers is_away_at (lacks_fork plan core.site state) (λ i within. held_is plan state core stands keeps i within))
      ∙ count_by-marks_of (lacks_fork plan core.site state) (all_places state)

  -- what can be put off at a place
  pub put_off_by_lists : (i : ℕ) → i < length core.places → can_put_off core i ≡ can_put_off_by_lists plan core.site state i
  put_off_by_lists i within =
      let clean : is_clean_in_hand (place_at core i).fork ≡ (not (is_eating state.phase) && fork_at plan core.site state i == 1 && not (is_dirty (hand_at core.site state i))) =
      ap (λ (p : Place). is_clean_in_hand p.fork) (place_is plan state core stands i within)
      ∙ clean_test (is_eating state.phase) (fork_at plan core.site state i == 1) (meals_of (neighbour_at plan core.site i) (hand_at core.site state i)) (hand_fork_at plan core.site state i) in
      ap₂ (λ (c : Bool) (d : Bool). c && d) clean
      (ap₂ (λ (a : Option Breach) (b : Option Breach). is_some a && is_some b) (breach_is plan state core stands keeps i within letter.Done) (breach_is plan state core stands keeps i within letter.Close))
