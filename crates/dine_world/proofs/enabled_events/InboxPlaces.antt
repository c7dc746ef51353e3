-- The places of a site with letters, as its set has them: the first, the n-th, and how many they are.
use Rattle.std.proofs.Common.{◌≡◌, ℕ, zero, suc, ◌+◌, ◌-◌, ◌<◌, ◌≤◌, ◌&&◌, nat_lt, Bool, true, false, cond, List, [], ◌∷◌, ◌++◌, length, length-append, map, get_or, replicate, slice_get, Option, Some, None, is_some, option_and_then, option_map, position, count_by, refl, sym, ◌∙◌, ap, ap₂, inl, inr, arith}
use Rattle.std.specs.List.{filter, find, range_with_len}
use Rattle.std.specs.Option.{option_or}
use Rattle.std.proofs.lemmas.Bool.{cases_lt, le-ltb, lt-ltb}
use Rattle.std.proofs.lemmas.List.{get_or-append_right, get_or_append_left, length-replicate}
use Rattle.std.proofs.lemmas.List.FromFn.{get_or-map-range_with_len, length-map-range_with_len, length-range_with_len}
use Rattle.std.proofs.lemmas.List.Sums.{length-filter}
use Rattle.std.proofs.lemmas.Option.{get_or_from_slice_get, slice_get_within}
use Rattle.dine_graph.specs.Plan.{SeenPlan, site_count}
use Rattle.dine_rules.specs.World.{WorldState}
use Rattle.dine_rules.specs.declared.events.EventKind.TheVariants as event
use Rattle.dine_rules.specs.declared.letters.Letter.{Letter}
use Rattle.dine_set.specs.Marks.{marks_of, nth_position}
use Rattle.dine_set.proofs.shared.MarksOf.{count_by-marks_of, nth_position-marks_of}
use Rattle.dine_set.proofs.shared.NthPosition.{nth_position-zero}
use Rattle.dine_world.specs.declared.world.sites.WorldSite.{WorldSite}
use Rattle.dine_world.specs.private.EnabledSites.{first_kind, first_kind_at}
use Rattle.dine_site.specs.Core.{SeenCore}
use Rattle.dine_world.specs.private.Inboxes.{HasInboxes}
use Rattle.dine_site.specs.NextEvent.{next_of}
use Rattle.dine_world.specs.WorldSites.{can_do, next_in}
use Rattle.dine_world.specs.Worlds.{IsWorldOf, SeenWorld, can_at}
use Rattle.dine_site.proofs.shared.one_site.Degrees.{degree_few}
use Rattle.dine_world.proofs.enabled_events.FirstEvents.{first_spelled}
use Rattle.dine_site.proofs.shared.own_events.NextEvents.{filter_first}
use Rattle.dine_world.proofs.all_sites.WorldSteps.{as_many_places}
use Rattle.dine_world.proofs.enabled_events.Inboxes.{none_in}

same_list : (xs ys : List Bool) → length xs ≡ length ys → ((i : ℕ) → i < length xs → get_or xs i false ≡ get_or ys i false) → xs ≡ ys
same_list [] [] size same = refl
same_list [] (y ∷ ys) size same = absurd (omega arith)
same_list (x ∷ xs) [] size same = absurd (omega arith)
same_list (x ∷ xs) (y ∷ ys) size same = ap₂ (λ (b : Bool) (rest : List Bool). b ∷ rest) (same 0 (omega arith)) (same_list xs ys (omega arith) (λ i h. same (suc i) (omega arith)))

-- the n-th number of a range that passes
shifted : (a : ℕ) (o : Option ℕ) → option_map (λ i. a + i) (option_map (λ i. i + 1) o) ≡ option_map (λ i. a + 1 + i) o
shifted a None = refl
shifted a (Some i) = let same : a + (i + 1) ≡ a + 1 + i = omega arith in ap (λ (n : ℕ). Some n) same

nth_of_range : (p : ℕ → Bool) (d a n : ℕ) → option_map (λ i. a + i) (nth_position p n (range_with_len a d)) ≡ slice_get (filter p (range_with_len a d)) n
nth_of_range p zero a n = refl
nth_of_range p (suc d) a zero =
    let rest : List ℕ = range_with_len (a + 1) d in
    elim (p a) as (λ b. option_map (λ i. a + i) (cond b (Some 0) (option_map (λ i. i + 1) (nth_position p 0 rest))) ≡ slice_get (cond b (a ∷ filter p rest) (filter p rest)) 0) [
      | true ↦ let same : a + 0 ≡ a = omega arith in ap (λ (k : ℕ). Some k) same
      | false ↦ shifted a (nth_position p 0 rest) ∙ nth_of_range p d (a + 1) 0
    ]
nth_of_range p (suc d) a (suc n) =
    let rest : List ℕ = range_with_len (a + 1) d in
    elim (p a) as (λ b. option_map (λ i. a + i) (option_map (λ i. i + 1) (nth_position p (cond b n (suc n)) rest)) ≡ slice_get (cond b (a ∷ filter p rest) (filter p rest)) (suc n)) [
      | true ↦ shifted a (nth_position p n rest) ∙ nth_of_range p d (a + 1) n
      | false ↦ shifted a (nth_position p (suc n) rest) ∙ nth_of_range p d (a + 1) (suc n)
    ]

from_none : (o : Option ℕ) → o ≡ option_map (λ i. 0 + i) o
from_none None = refl
from_none (Some i) = let same : i ≡ 0 + i = omega arith in ap (λ (n : ℕ). Some n) same

module _ (links : List (List Letter)) (core : SeenCore) (row : List Bool) (size : length row ≡ 64) (few : length core.places ≤ 64)
    (is : (i : ℕ) → get_or row i false ≡ can_do links core (event.Take i)) where
  abbrev pub test : ℕ → Bool
  test i = is_some (next_in links core i)

  abbrev n : ℕ
  n = length core.places

  abbrev pub places : List ℕ
  places = range_with_len 0 n

  mark : (i : ℕ) → get_or (map test places ++ replicate (64 - n) false) i false ≡ (nat_lt i n && test i)
  mark i = elim (cases_lt i n) [
    | inl within ↦
        get_or_append_left (map test places) (replicate (64 - n) false) false i (omega (arith, within, length-map-range_with_len test 0 n))
        ∙ get_or-map-range_with_len test 0 n i i false within (omega arith)
        ∙ sym (ap (λ (b : Bool). b && test i) (lt-ltb i n within))
    | inr past ↦
        get_or-append_right (map test places) (replicate (64 - n) false) n i false (length-map-range_with_len test 0 n) past
        ∙ none_in (64 - n) (i - n)
        ∙ sym (ap (λ (b : Bool). b && test i) (le-ltb i n past))
  ]

  row_is : row ≡ marks_of test places
  unfolding marks_of
  row_is =
      let long : length places ≡ n = length-range_with_len 0 n in
      let marks : List Bool = map test places ++ replicate (64 - n) false in
      let whole : length marks ≡ 64 = omega (arith, length-append (map test places) (replicate (64 - n) false), length-map-range_with_len test 0 n, length-replicate (64 - n) false, few) in
      same_list row marks (size ∙ sym whole) (λ i h. is i ∙ sym (mark i)) ∙ ap (λ (k : ℕ). map test places ++ replicate (64 - k) false) (sym long)

  pub heard_nth : (k : ℕ) → nth_position (λ b. b) k row ≡ slice_get (filter test places) k
  heard_nth k = ap (nth_position (λ (b : Bool). b) k) row_is ∙ nth_position-marks_of test k places ∙ from_none (nth_position test k places) ∙ nth_of_range test n 0 k

  pub heard_first : position (λ b. b) row ≡ find test places
  heard_first = sym (nth_position-zero (λ (b : Bool). b) row) ∙ heard_nth 0 ∙ filter_first test places

  pub heard_count : count_by (λ b. b) row ≡ length (filter test places)
  heard_count = ap (count_by (λ (b : Bool). b)) row_is ∙ count_by-marks_of test places ∙ sym (length-filter test places)

-- ---- the site of a world, by its set

module _ (plan : SeenPlan) (world : WorldState) (seen : SeenWorld) (stands : IsWorldOf plan world seen) (nonempty_inboxes : List (List Bool)) (has : HasInboxes seen nonempty_inboxes)
    (s : ℕ) (world_site : WorldSite) (found : slice_get seen.sites s ≡ Some world_site) where
  abbrev row : List Bool
  row = get_or nonempty_inboxes s []

  few_places : length world_site.core.places ≤ 64
  few_places =
      let same : get_or seen.sites s world_site ≡ world_site = get_or_from_slice_get seen.sites s world_site world_site found in
      let is_site : s < site_count plan = omega (arith, slice_get_within seen.sites s world_site found, stands.sites.count) in
      omega (arith, ap (λ (x : WorldSite). length x.core.places) same, as_many_places plan world seen stands s is_site world_site, degree_few plan s stands.reached.is_plan)

  row_size : length row ≡ 64
  row_size = has.size s (slice_get_within seen.sites s world_site found)

  takes : (i : ℕ) → get_or row i false ≡ can_do seen.links world_site.core (event.Take i)
  takes i = has.places s i ∙ ap (can_at seen.links (event.Take i)) found

  -- the first event of the site
  pub first_by_set : first_kind_at seen s ≡ option_or (option_map event.Take (position (λ b. b) row)) (next_of world_site.core)
  first_by_set =
      ap (option_and_then (λ (x : WorldSite). first_kind seen.links x.core)) found
      ∙ first_spelled seen.links world_site.core
      ∙ ap (λ (o : Option ℕ). option_or (option_map event.Take o) (next_of world_site.core)) (sym (heard_first seen.links world_site.core row row_size few_places takes))

  -- how many places have a letter, and the n-th of them
  pub count_by_set : count_by (λ b. b) row ≡ length (filter (λ i. is_some (next_in seen.links world_site.core i)) (range_with_len 0 (length world_site.core.places)))
  count_by_set = heard_count seen.links world_site.core row row_size few_places takes

  pub nth_by_set : (k : ℕ) → nth_position (λ b. b) k row ≡ slice_get (filter (λ i. is_some (next_in seen.links world_site.core i)) (range_with_len 0 (length world_site.core.places))) k
  nth_by_set k = heard_nth seen.links world_site.core row row_size few_places takes k
