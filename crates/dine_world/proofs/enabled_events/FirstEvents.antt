-- The first enabled event of a site, and of the world.
use Rattle.std.proofs.Common.{◌≡◌, ℕ, zero, suc, ◌+◌, ◌<◌, ◌≤◌, ◌&&◌, nat_lt, Bool, true, false, cond, List, [], ◌∷◌, ◌++◌, length, map, slice_get, Option, Some, None, is_some, option_map, option_and_then, refl, sym, ◌∙◌, ap, ap₂, inl, inr, arith, append_assoc}
use Rattle.std.specs.List.{filter, find, range_with_len}
use Rattle.std.specs.Option.{option_or}
use Rattle.std.proofs.lemmas.Bool.{cases_eq, cases_lt, le-ltb}
use Rattle.std.proofs.lemmas.List.Folds.{find-append}
use Rattle.std.proofs.lemmas.Option.{get_or_from_slice_get, slice_get_past, slice_get_within}
use Rattle.dine_graph.specs.Plan.{SeenPlan, edges_of, site_count}
use Rattle.dine_rules.specs.declared.events.Event.{Event}
use Rattle.dine_rules.specs.declared.events.EventKind.{EventKind}
use Rattle.dine_rules.specs.declared.events.EventKind.TheVariants as event
use Rattle.dine_rules.specs.declared.letters.Letter.{Letter}
use Rattle.dine_rules.specs.World.{WorldState, enabled_events, events_at, is_enabled, kinds_at, placeless_kinds}
use Rattle.dine_world.specs.declared.world.sites.WorldSite.{WorldSite}
use Rattle.dine_world.specs.private.EnabledSites.{IsStill, first_kind, first_kind_at}
use Rattle.dine_site.specs.Core.{SeenCore}
use Rattle.dine_site.specs.NextEvent.{can_by_itself, next_of, own_kinds}
use Rattle.dine_site.specs.Places.{can_ask, can_close, can_give, can_say_done}
use Rattle.dine_world.specs.WorldSites.{can_do, next_in}
use Rattle.dine_world.specs.Worlds.{IsWorldOf, SeenWorld, can_at, can_happen}
use Rattle.dine_rules.proofs.shared.counting.KindNumbers.{choices, found_at, more_sites, of_sites}
use Rattle.dine_world.proofs.all_sites.CanHappen.{can_happen_is}
use Rattle.dine_world.proofs.enabled_events.EnabledEvents.{degree_is, enabled_at}
use Rattle.dine_site.proofs.shared.own_events.NextEvents.{bounded, filter_first, find-map, find_same}

-- ---- two tests that agree find the same

module _ (p q : EventKind → Bool) where
  both : (xs ys : List EventKind) → find p xs ≡ find q xs → find p ys ≡ find q ys → find p (xs ++ ys) ≡ find q (xs ++ ys)
  both xs ys x y = find-append p xs ys ∙ ap₂ (λ (a b : Option EventKind). option_or a b) x y ∙ sym (find-append q xs ys)

  mapped : (f : ℕ → EventKind) → ((i : ℕ) → p (f i) ≡ q (f i)) → (xs : List ℕ) → find p (map f xs) ≡ find q (map f xs)
  mapped f same xs = find-map f p xs ∙ ap (option_map f) (find_same (λ i. p (f i)) (λ i. q (f i)) same xs) ∙ sym (find-map f q xs)

-- ---- where nothing is found, nothing passes

cond_none : {X : Type 0} (b : Bool) (x : X) (o : Option X) → cond b (Some x) o ≡ None → (b ≡ false) × (o ≡ None)
cond_none true x o h = absurd (cc)
cond_none false x o h = (refl, h)

or_none : {X : Type 0} (a b : Option X) → option_or a b ≡ None → (a ≡ None) × (b ≡ None)
or_none None b h = (refl, h)
or_none (Some x) b h = absurd (cc)

parts_none : (p : EventKind → Bool) (xs ys : List EventKind) → find p (xs ++ ys) ≡ None → (find p xs ≡ None) × (find p ys ≡ None)
parts_none p xs ys h = or_none (find p xs) (find p ys) (sym (find-append p xs ys) ∙ h)

none_at : (p : EventKind → Bool) (f : ℕ → EventKind) (a n i : ℕ) → find p (map f (range_with_len a n)) ≡ None → a ≤ i → i < a + n → p (f i) ≡ false
none_at p f a zero i h low high = absurd (omega arith)
none_at p f a (suc n) i h low high =
    let w = cond_none (p (f a)) (f a) (find p (map f (range_with_len (a + 1) n))) h in
    elim (cases_eq a i) [
      | inl same ↦ ap (λ (k : ℕ). p (f k)) (sym same) ∙ w.0
      | inr other ↦ none_at p f (a + 1) n i w.1 (omega arith) (omega arith)
    ]

none_of : (p : ℕ → Bool) (a n : ℕ) → ((i : ℕ) → i < a + n → p i ≡ false) → find p (range_with_len a n) ≡ None
none_of p a zero none = refl
none_of p a (suc n) none = ap (λ (b : Bool). cond b (Some a) (find p (range_with_len (a + 1) n))) (none a (omega arith)) ∙ none_of p (a + 1) n (λ i h. none i (omega arith))

-- ---- the events of one site

regroup : (a b c d e f : List EventKind) → a ++ b ++ c ++ d ++ e ++ f ≡ a ++ (b ++ c ++ d ++ e ++ f)
regroup a b c d e f = simp append_assoc

module _ (links : List (List Letter)) (core : SeenCore) where
  abbrev n : ℕ
  n = length core.places

  abbrev places : List ℕ
  places = range_with_len 0 n

  abbrev p : EventKind → Bool
  p = can_do links core

  -- all but the Takes are what the site may do by itself
  own_agrees : find p (own_kinds places) ≡ next_of core
  own_agrees =
      let q : EventKind → Bool = can_by_itself core in
      both p q (map event.Give places ++ placeless_kinds ++ map event.Ask places ++ map event.Done places) (map event.Close places)
      (both p q (map event.Give places ++ placeless_kinds ++ map event.Ask places) (map event.Done places)
      (both p q (map event.Give places ++ placeless_kinds) (map event.Ask places)
      (both p q (map event.Give places) placeless_kinds (mapped p q event.Give (λ i. refl) places) refl)
      (mapped p q event.Ask (λ i. refl) places))
      (mapped p q event.Done (λ i. refl) places))
      (mapped p q event.Close (λ i. refl) places)

  -- so the first is a Take, or what the site may do first by itself
  pub first_spelled : first_kind links core ≡ option_or (option_map event.Take (find (λ i. is_some (next_in links core i)) places)) (next_of core)
  first_spelled =
      ap (find p) (regroup (map event.Take places) (map event.Give places) placeless_kinds (map event.Ask places) (map event.Done places) (map event.Close places))
      ∙ find-append p (map event.Take places) (own_kinds places)
      ∙ ap₂ (λ (a b : Option EventKind). option_or a b)
      (find-map event.Take p places ∙ ap (option_map event.Take) (bounded n (λ i. is_some (next_in links core i))))
      own_agrees

  -- where there is none, the site may do nothing
  at : (f : ℕ → EventKind) (g : ℕ → Bool) → ((i : ℕ) → p (f i) ≡ (nat_lt i n && g i)) → find p (map f places) ≡ None → (i : ℕ) → p (f i) ≡ false
  at f g is none i = elim (cases_lt i n) [
    | inl within ↦ none_at p f 0 n i none (omega arith) (omega arith)
    | inr past ↦ is i ∙ ap (λ (b : Bool). b && g i) (le-ltb i n past)
  ]

  each_can_not : find p (map event.Take places) ≡ None → find p (map event.Give places) ≡ None → p event.End ≡ false → p event.Begin ≡ false → p event.Quit ≡ false → p event.Hungry ≡ false
      → find p (map event.Ask places) ≡ None → find p (map event.Done places) ≡ None → find p (map event.Close places) ≡ None → (kind : EventKind) → p kind ≡ false
  each_can_not takes gives end begin quit hungry asks dones closes (event.Take i) = at event.Take (λ k. is_some (next_in links core k)) (λ k. refl) takes i
  each_can_not takes gives end begin quit hungry asks dones closes (event.Give i) = at event.Give (can_give core) (λ k. refl) gives i
  each_can_not takes gives end begin quit hungry asks dones closes event.End = end
  each_can_not takes gives end begin quit hungry asks dones closes event.Begin = begin
  each_can_not takes gives end begin quit hungry asks dones closes event.Quit = quit
  each_can_not takes gives end begin quit hungry asks dones closes event.Hungry = hungry
  each_can_not takes gives end begin quit hungry asks dones closes (event.Ask i) = at event.Ask (can_ask core) (λ k. refl) asks i
  each_can_not takes gives end begin quit hungry asks dones closes (event.Done i) = at event.Done (can_say_done core) (λ k. refl) dones i
  each_can_not takes gives end begin quit hungry asks dones closes (event.Close i) = at event.Close (can_close core) (λ k. refl) closes i

  pub none_can : first_kind links core ≡ None → (kind : EventKind) → p kind ≡ false
  none_can none =
      let closes = parts_none p (map event.Take places ++ map event.Give places ++ placeless_kinds ++ map event.Ask places ++ map event.Done places) (map event.Close places) none in
      let dones = parts_none p (map event.Take places ++ map event.Give places ++ placeless_kinds ++ map event.Ask places) (map event.Done places) closes.0 in
      let asks = parts_none p (map event.Take places ++ map event.Give places ++ placeless_kinds) (map event.Ask places) dones.0 in
      let thirds = parts_none p (map event.Take places ++ map event.Give places) placeless_kinds asks.0 in
      let gives = parts_none p (map event.Take places) (map event.Give places) thirds.0 in
      let end = cond_none (p event.End) event.End (find p (event.Begin ∷ event.Quit ∷ event.Hungry ∷ [])) thirds.1 in
      let begin = cond_none (p event.Begin) event.Begin (find p (event.Quit ∷ event.Hungry ∷ [])) end.1 in
      let quit = cond_none (p event.Quit) event.Quit (find p (event.Hungry ∷ [])) begin.1 in
      let hungry = cond_none (p event.Hungry) event.Hungry None quit.1 in
      each_can_not gives.0 gives.1 end.0 begin.0 quit.0 hungry.0 asks.1 dones.1 closes.1

still_here : (links : List (List Letter)) (o : Option WorldSite) → option_and_then (λ (world_site : WorldSite). first_kind links world_site.core) o ≡ None → (kind : EventKind) → can_at links kind o ≡ false
still_here links None h kind = refl
still_here links (Some world_site) h kind = none_can links world_site.core h kind

-- a site without a first event is still
pub still_at : (seen : SeenWorld) (s : ℕ) → first_kind_at seen s ≡ None → IsStill seen s
still_at seen s h kind = still_here seen.links (slice_get seen.sites s) h kind

-- ---- the events of all sites

-- an event of a site
abbrev pub event_of : ℕ → EventKind → Event
event_of s kind = record { site = s; kind = kind }

filter_none : (p : Event → Bool) (s : ℕ) → ((kind : EventKind) → p (event_of s kind) ≡ false) → (kinds : List EventKind) → length (filter p (map (event_of s) kinds)) ≡ 0
filter_none p s none [] = refl
filter_none p s none (kind ∷ kinds) = ap (λ (b : Bool). length (cond b (event_of s kind ∷ filter p (map (event_of s) kinds)) (filter p (map (event_of s) kinds)))) (none kind) ∙ filter_none p s none kinds

-- a site that has a first event is there
site_of_first : (links : List (List Letter)) (o : Option WorldSite) (kind : EventKind) → option_and_then (λ (world_site : WorldSite). first_kind links world_site.core) o ≡ Some kind
    → (world_site : WorldSite) × (o ≡ Some world_site) × (first_kind links world_site.core ≡ Some kind)
site_of_first links None kind h = absurd (cc)
site_of_first links (Some world_site) kind h = (world_site, refl, h)

module _ (plan : SeenPlan) (world : WorldState) (seen : SeenWorld) (is : IsWorldOf plan world seen) where
  -- the first enabled event of a site
  first_at_site : (s : ℕ) (world_site : WorldSite) → slice_get seen.sites s ≡ Some world_site
      → slice_get (filter (is_enabled plan world) (events_at plan s)) 0 ≡ option_map (event_of s) (first_kind seen.links world_site.core)
  first_at_site s world_site here =
      let d : ℕ = length world_site.core.places in
      let degree : d ≡ length (edges_of plan s) = ap (λ (w : WorldSite). length w.core.places) (sym (get_or_from_slice_get seen.sites s world_site world_site here))
      ∙ degree_is plan world seen is s world_site (slice_get_within seen.sites s world_site here) in
      ap (λ (l : List Event). slice_get l 0) (sym (enabled_at plan world seen is s d degree))
      ∙ filter_first (can_happen seen) (choices s d)
      ∙ find-map (event_of s) (can_happen seen) (kinds_at (range_with_len 0 d))
      ∙ ap (λ (o : Option WorldSite). option_map (event_of s) (find (λ kind. can_at seen.links kind o) (kinds_at (range_with_len 0 d)))) here

  -- still sites have no enabled event
  none_before : (s : ℕ) → ((t : ℕ) → t < s → IsStill seen t) → length (of_sites (is_enabled plan world) (events_at plan) s) ≡ 0
  none_before zero still = refl
  none_before (suc s) still =
      let next : suc s ≡ s + 1 = omega arith in
      let here : length (filter (is_enabled plan world) (events_at plan s)) ≡ 0 =
      filter_none (is_enabled plan world) s (λ kind. sym (can_happen_is plan world seen is (event_of s kind)) ∙ still s (omega arith) kind) (kinds_at (range_with_len 0 (length (edges_of plan s)))) in
      let before : length (of_sites (is_enabled plan world) (events_at plan) s) ≡ 0 = none_before s (λ t h. still t (omega arith)) in
      ap (λ (k : ℕ). length (of_sites (is_enabled plan world) (events_at plan) k)) next
      ∙ more_sites (is_enabled plan world) (events_at plan) s ∙ ap₂ (λ (a b : ℕ). a + b) before here

  -- the first event of the first site that is not still is the first of all
  pub first_of_all : (s : ℕ) (kind : EventKind) → ((t : ℕ) → t < s → IsStill seen t) → first_kind_at seen s ≡ Some kind
      → slice_get (enabled_events plan world) 0 ≡ Some (record { site = s; kind = kind })
  first_of_all s kind still first =
      let w = site_of_first seen.links (slice_get seen.sites s) kind first in
      let within : s < site_count plan = omega (arith, slice_get_within seen.sites s w.0 w.1, is.sites.count) in
      let here : slice_get (filter (is_enabled plan world) (events_at plan s)) 0 ≡ Some (event_of s kind) = first_at_site s w.0 w.1 ∙ ap (option_map (event_of s)) w.2 in
      let index : length (of_sites (is_enabled plan world) (events_at plan) s) + 0 ≡ 0 = omega (arith, none_before s still) in
      ap (slice_get (enabled_events plan world)) (sym index) ∙ found_at (is_enabled plan world) (events_at plan) s (site_count plan) 0 (event_of s kind) within here

  -- where all sites are still there is none
  pub none_of_all : ((t : ℕ) → t < site_count plan → IsStill seen t) → slice_get (enabled_events plan world) 0 ≡ None
  none_of_all still = slice_get_past (enabled_events plan world) 0 (omega (arith, none_before (site_count plan) still))
