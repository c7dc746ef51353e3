-- The places with letters in the links to the sites, before and after an event.
use Rattle.std.proofs.Common.{◌≡◌, ◌≢◌, ℕ, zero, suc, ◌+◌, ◌*◌, ◌/◌, ◌%◌, ◌<◌, ◌≤◌, ◌==◌, ◌&&◌, not, Bool, true, false, cond, List, [], ◌∷◌, length, get_or, replicate, slice_get, slice_set, Option, Some, None, is_some, option_and_then, refl, sym, ◌∙◌, ap, ap₂, subst, inl, inr, arith}
use Rattle.std.specs.List.{All}
use Rattle.std.proofs.lemmas.Bool.{cases_eq, cases_lt, eqb-true, eq-eqb, false≢true, le-ltb, lt-ltb, ltb-true}
use Rattle.std.proofs.lemmas.List.{get_or-set_other, get_or-set_same, length-replicate, length-set}
use Rattle.std.proofs.lemmas.List.FromFn.{get_or-map-range_with_len, length-map-range_with_len}
use Rattle.std.proofs.lemmas.Option.{slice_get-get_or, slice_get_past}
use Rattle.dine_graph.specs.Plan.{SeenPlan, edge_count, edges_of, hi_of, lo_of, site_count}
use Rattle.dine_rules.specs.declared.events.Event.{Event}
use Rattle.dine_rules.specs.declared.events.EventKind.TheVariants as event
use Rattle.dine_rules.specs.declared.letters.Letter.{Letter}
use Rattle.dine_rules.specs.Local.{edge_at, neighbour_at}
use Rattle.dine_rules.specs.declared.events.Shape.{Shape}
use Rattle.dine_rules.specs.declared.events.Shape.TheVariants.{Takes, Puts, Alone}
use Rattle.dine_rules.specs.Steps.{Step, shape_of}
use Rattle.dine_rules.specs.Streams.{is_lower_at}
use Rattle.dine_rules.specs.World.{WorldState, place_of, state_of}
use Rattle.dine_world.specs.declared.world.sites.WorldSite.{WorldSite}
use Rattle.dine_world.specs.declared.world.EdgeEnds.{EdgeEnds}
use Rattle.dine_site.specs.Core.{SeenCore}
use Rattle.dine_world.specs.private.Inboxes.{HasInboxes, LeadsToSet, changed_link, end_of, end_of_link, has_letter, no_ends, inboxes_after}
use Rattle.dine_site.specs.LinkNumbers.{link_from, link_to}
use Rattle.dine_site.specs.Places.{place_at}
use Rattle.dine_site.specs.NextEvent.{has_place}
use Rattle.dine_world.specs.WorldSites.{can_do, next_in}
use Rattle.dine_world.specs.private.StepsOfSites.{MovesLetters}
use Rattle.dine_world.specs.Worlds.{IsWorldOf, SeenWorld, can_at, can_happen, ends_seen, number_to}
use Rattle.dine_rules.proofs.shared.links.Across.{across, place_of-edge_at}
use Rattle.dine_rules.proofs.shared.one_place.Placed.{placed}
use Rattle.dine_world.proofs.enabled_events.EnabledSites.{get_other, has_its_place}
use Rattle.dine_world.proofs.all_sites.CanHappen.{site_at}
use Rattle.dine_site.proofs.shared.one_site.Degrees.{degree_few}
use Rattle.dine_world.proofs.all_sites.LinkNumbers.{from_is_to, same_place}
use Rattle.dine_world.proofs.all_sites.WorldSteps.{as_many_places, from_is, to_is}
use Rattle.dine_world.proofs.all_sites.WorldStepped.{site_within}

-- a Take of a site at a place
abbrev take_at : ℕ → ℕ → Event
take_at s i = record { site = s; kind = event.Take i }

-- ---- a Take is a letter in a link

module _ (plan : SeenPlan) (world : WorldState) (seen : SeenWorld) (is : IsWorldOf plan world seen) where
  take_beyond : (s i : ℕ) → site_count plan ≤ s → can_happen seen (take_at s i) ≡ false
  take_beyond s i past = ap (can_at seen.links (event.Take i)) (slice_get_past seen.sites s (omega (arith, past, is.sites.count)))

  module _ (s i : ℕ) (is_s : s < site_count plan) where
    past : WorldSite
    past = (site_at seen.sites s (omega (arith, is_s, is.sites.count))).0

    abbrev here : WorldSite
    here = get_or seen.sites s past

    at_here : can_happen seen (take_at s i) ≡ can_do seen.links here.core (event.Take i)
    at_here = ap (can_at seen.links (event.Take i)) (slice_get-get_or seen.sites s past (omega (arith, is_s, is.sites.count)))

    take_is_letter : i < length (edges_of plan s) → can_happen seen (take_at s i) ≡ has_letter seen.links (number_to plan s i)
    take_is_letter at_s =
        let within : i < length here.core.places = omega (arith, at_s, as_many_places plan world seen is s is_s past) in
        at_here
        ∙ ap (λ (b : Bool). b && is_some (next_in seen.links here.core i)) (lt-ltb i (length here.core.places) within)
        ∙ ap (has_letter seen.links) (to_is plan world seen is s is_s past i within)

    take_past : length (edges_of plan s) ≤ i → can_happen seen (take_at s i) ≡ false
    take_past beyond =
        at_here ∙ ap (λ (b : Bool). b && is_some (next_in seen.links here.core i)) (le-ltb i (length here.core.places) (omega (arith, beyond, as_many_places plan world seen is s is_s past)))

-- ---- to which place a link leads

module _ (plan : SeenPlan) (world : WorldState) (seen : SeenWorld) (is : IsWorldOf plan world seen) (s i : ℕ) (at_s : i < length (edges_of plan s)) where
  abbrev e : ℕ
  e = edge_at plan s i

  half_is : (b : Bool) → (2 * e + cond {A = ℕ} b 1 0) / 2 ≡ e
  half_is true = omega arith
  half_is false = omega arith

  bit_is : (b : Bool) → ((2 * e + cond {A = ℕ} b 1 0) % 2 == 0) ≡ not b
  bit_is true = let one : (2 * e + 1) % 2 ≡ 1 = omega arith in ap (λ (k : ℕ). k == 0) one
  bit_is false = let none : (2 * e + 0) % 2 ≡ 0 = omega arith in ap (λ (k : ℕ). k == 0) none

  end_by : (b : Bool) → is_lower_at plan s i ≡ b → end_of (not b) (ends_seen plan e) ≡ (s, i)
  end_by true low =
      let lower : lo_of plan e ≡ s = eqb-true (lo_of plan e) s low in
      ap₂ {C = ℕ × ℕ} (λ x y. (x, y)) lower (ap (λ (x : ℕ). place_of plan x e) lower ∙ place_of-edge_at plan s i at_s)
  end_by false high =
      let higher : hi_of plan e ≡ s = elim (placed plan s i is.reached.is_plan at_s).sides [
        | inl side ↦ absurd (false≢true (sym high ∙ eq-eqb (lo_of plan e) s side.0))
        | inr side ↦ side.0
      ] in
      ap₂ {C = ℕ × ℕ} (λ x y. (x, y)) higher (ap (λ (x : ℕ). place_of plan x e) higher ∙ place_of-edge_at plan s i at_s)

  is_edge : e < edge_count plan
  is_edge = (placed plan s i is.reached.is_plan at_s).edge_within

  ends_are : get_or seen.edges e no_ends ≡ ends_seen plan e
  ends_are = ap (λ (ends : List EdgeEnds). get_or ends e no_ends) is.edges ∙ get_or-map-range_with_len (ends_seen plan) 0 (edge_count plan) e e no_ends is_edge (omega arith)

  pub end_is : end_of_link seen.edges (number_to plan s i) ≡ (s, i)
  end_is =
      ap₂ end_of (bit_is (is_lower_at plan s i)) (ap (λ (k : ℕ). get_or seen.edges k no_ends) (half_is (is_lower_at plan s i)) ∙ ends_are)
      ∙ end_by (is_lower_at plan s i) refl

  pub edge_is : number_to plan s i / 2 ≡ e
  edge_is = half_is (is_lower_at plan s i)

-- ---- the link that an event changes

-- One link is changed, which leads to a place of a site; or none is.
pub record IsChangeAt (plan : SeenPlan) (old new : List (List Letter)) (n : ℕ) : Type 0 where
  pub site : ℕ
  pub place : ℕ
  pub is_site : site < site_count plan
  pub within : place < length (edges_of plan site)
  pub link : n ≡ number_to plan site place
  pub others : (m : ℕ) → m ≢ n → has_letter new m ≡ has_letter old m

abbrev pub IsChange : SeenPlan → List (List Letter) → List (List Letter) → Option ℕ → Type 0
IsChange plan old new None = new ≡ old
IsChange plan old new (Some n) = IsChangeAt plan old new n

-- the letters of another link are as they were
untouched : (links : List (List Letter)) (n m : ℕ) (letters : List Letter) → m ≢ n → has_letter (slice_set links n letters) m ≡ has_letter links m
untouched links n m letters apart = ap (λ (o : Option (List Letter)). is_some (option_and_then (λ (l : List Letter). slice_get l 0) o)) (get_other links n m letters apart)

module _ (plan : SeenPlan) (world : WorldState) (seen : SeenWorld) (stands : IsWorldOf plan world seen) (s : ℕ) (is_s : s < site_count plan) (past : WorldSite) where
  abbrev core : SeenCore
  core = (get_or seen.sites s past).core

  pub changes : (shape : Shape) (one : Step) (links : List (List Letter)) → has_place core shape ≡ true → MovesLetters plan (state_of world s) core shape one seen.links links → IsChange plan seen.links links (changed_link core shape)
  changes (Takes i) one links there moved =
      let h : i < length core.places = ltb-true i (length core.places) there in
      record {
        site = s;
        place = i;
        is_site = is_s;
        within = omega (arith, h, as_many_places plan world seen stands s is_s past);
        link = to_is plan world seen stands s is_s past i h;
        others = λ m apart. ap (λ (l : List (List Letter)). has_letter l m) moved ∙ untouched seen.links (link_to core.site (place_at core i)) m _ apart;
      }
  changes (Puts i) one links there (l, is, moved) =
      let h : i < length core.places = ltb-true i (length core.places) there in
      let at_s : i < length (edges_of plan s) = omega (arith, h, as_many_places plan world seen stands s is_s past) in
      let over = across plan s i stands.reached.is_plan at_s in
      let other : ℕ = neighbour_at plan s i in
      record {
        site = other;
        place = place_of plan other (edge_at plan s i);
        is_site = over.is_site;
        within = over.within;
        link = from_is plan world seen stands s is_s past i h ∙ from_is_to plan s i other (place_of plan other (edge_at plan s i)) over;
        others = λ m apart. ap (λ (l : List (List Letter)). has_letter l m) moved ∙ untouched seen.links (link_from core.site (place_at core i)) m _ apart;
      }
  changes Alone one links there moved = moved

-- the link that an event changes, at the site where it happens
pub event_changes : (seen : SeenWorld) (e : Event) (can : can_happen seen e ≡ true) (plan : SeenPlan) (world : WorldState) (stands : IsWorldOf plan world seen) (world_site : WorldSite)
    (is : world_site ≡ get_or seen.sites e.site world_site) (one : Step) (links : List (List Letter)) → MovesLetters plan (state_of world e.site) (get_or seen.sites e.site world_site).core (shape_of e.kind) one seen.links links
    → IsChange plan seen.links links (changed_link world_site.core (shape_of e.kind))
event_changes seen e can plan world stands world_site is one links moved = subst (λ (x : WorldSite). IsChange plan seen.links links (changed_link x.core (shape_of e.kind))) (sym is)
    (changes plan world seen stands e.site (omega (arith, site_within seen e can, stands.sites.count)) world_site (shape_of e.kind) one links (has_its_place seen e can plan world stands world_site is) moved)

-- ---- the sets after a change

module _ (plan : SeenPlan) (world next : WorldState) (seen after : SeenWorld) (is : IsWorldOf plan world seen) (then : IsWorldOf plan next after) (edges : after.edges ≡ seen.edges)
    (nonempty_inboxes : List (List Bool)) (has : HasInboxes seen nonempty_inboxes) where
  as_many : length after.sites ≡ length seen.sites
  as_many = then.sites.count ∙ sym is.sites.count

  -- a Take by a link whose letters are as they were
  same_take : (s i : ℕ) → (s < site_count plan → i < length (edges_of plan s) → has_letter after.links (number_to plan s i) ≡ has_letter seen.links (number_to plan s i))
      → can_happen seen (take_at s i) ≡ can_happen after (take_at s i)
  same_take s i same = elim (cases_lt s (site_count plan)) [
    | inl is_s ↦ elim (cases_lt i (length (edges_of plan s))) [
      | inl at_s ↦ take_is_letter plan world seen is s i is_s at_s ∙ sym (same is_s at_s) ∙ sym (take_is_letter plan next after then s i is_s at_s)
      | inr beyond ↦ take_past plan world seen is s i is_s beyond ∙ sym (take_past plan next after then s i is_s beyond)
    ]
    | inr beyond ↦ take_beyond plan world seen is s i beyond ∙ sym (take_beyond plan next after then s i beyond)
  ]

  -- where the link leads there is a set
  pub leads : (link : Option ℕ) → IsChange plan seen.links after.links link → LeadsToSet seen.edges nonempty_inboxes link
  leads None change = tt
  leads (Some n) change =
      let end : end_of_link seen.edges n ≡ (change.site, change.place) = ap (end_of_link seen.edges) change.link ∙ end_is plan world seen is change.site change.place change.within in
      let edge : n / 2 ≡ edge_at plan change.site change.place = ap (λ (k : ℕ). k / 2) change.link ∙ edge_is plan world seen is change.site change.place change.within in (
        omega (arith, edge, is_edge plan world seen is change.site change.place change.within, ap length is.edges, length-map-range_with_len (ends_seen plan) 0 (edge_count plan)),
        omega (arith, ap (λ (x : ℕ × ℕ). x.0) end, change.is_site, has.every_site, is.sites.count),
        omega (arith, ap (λ (x : ℕ × ℕ). x.1) end, change.within, degree_few plan change.site is.reached.is_plan),
      )

  module _ (n : ℕ) (change : IsChangeAt plan seen.links after.links n) where
    abbrev row : List Bool
    row = get_or nonempty_inboxes change.site []

    abbrev letter : Bool
    letter = has_letter after.links n

    is_row : change.site < length nonempty_inboxes
    is_row = omega (arith, change.is_site, has.every_site, is.sites.count)

    at_place : (i : ℕ) → get_or (slice_set row change.place letter) i false ≡ can_happen after (take_at change.site i)
    at_place i = elim (cases_eq i change.place) [
      | inl same ↦
          let within : change.place < length row = omega (arith, has.size change.site (omega (arith, is_row, has.every_site)), change.within, degree_few plan change.site is.reached.is_plan) in
          ap (λ (k : ℕ). get_or (slice_set row change.place letter) k false) same
          ∙ get_or-set_same row change.place letter false within
          ∙ ap (has_letter after.links) change.link
          ∙ sym (take_is_letter plan next after then change.site change.place change.is_site change.within)
          ∙ ap (λ (k : ℕ). can_happen after (take_at change.site k)) (sym same)
      | inr other ↦
          get_or-set_other row change.place i letter false other
          ∙ has.places change.site i
          ∙ same_take change.site i (λ is_s at_s. change.others (number_to plan change.site i)
          (λ same. other ((same_place plan change.site i change.site change.place is.reached.is_plan at_s change.within (same ∙ change.link)).1)))
    ]

    changed : HasInboxes after (slice_set nonempty_inboxes change.site (slice_set row change.place letter))
    changed = record {
      every_site = length-set nonempty_inboxes change.site (slice_set row change.place letter) ∙ has.every_site ∙ sym as_many;
      size = λ s h. elim (cases_eq s change.site) [
        | inl same ↦ ap (λ (k : ℕ). length (get_or (slice_set nonempty_inboxes change.site (slice_set row change.place letter)) k [])) same
            ∙ ap length (get_or-set_same nonempty_inboxes change.site (slice_set row change.place letter) [] is_row) ∙ length-set row change.place letter ∙ has.size change.site (omega (arith, is_row, has.every_site))
        | inr other ↦ ap length (get_or-set_other nonempty_inboxes change.site s (slice_set row change.place letter) [] other) ∙ has.size s (omega (arith, h, as_many))
      ];
      places = λ s i. elim (cases_eq s change.site) [
        | inl same ↦ ap (λ (k : ℕ). get_or (get_or (slice_set nonempty_inboxes change.site (slice_set row change.place letter)) k []) i false) same
            ∙ ap (λ (l : List Bool). get_or l i false) (get_or-set_same nonempty_inboxes change.site (slice_set row change.place letter) [] is_row)
            ∙ at_place i ∙ ap (λ (k : ℕ). can_happen after (take_at k i)) (sym same)
        | inr other ↦ ap (λ (l : List Bool). get_or l i false) (get_or-set_other nonempty_inboxes change.site s (slice_set row change.place letter) [] other)
            ∙ has.places s i
            ∙ same_take s i (λ is_s at_s. change.others (number_to plan s i)
            (λ same. other ((same_place plan s i change.site change.place is.reached.is_plan at_s change.within (same ∙ change.link)).0)))
      ];
    }

  -- the sets stay right
  pub heard_after : (link : Option ℕ) → IsChange plan seen.links after.links link → HasInboxes after (inboxes_after after.links seen.edges link nonempty_inboxes)
  heard_after None change = record {
    every_site = has.every_site ∙ sym as_many;
    size = λ s h. has.size s (omega (arith, h, as_many));
    places = λ s i. has.places s i ∙ same_take s i (λ is_s at_s. ap (λ (l : List (List Letter)). has_letter l (number_to plan s i)) change);
  }
  heard_after (Some n) change =
      let end : end_of_link seen.edges n ≡ (change.site, change.place) = ap (end_of_link seen.edges) change.link ∙ end_is plan world seen is change.site change.place change.within in
      subst (λ (x : ℕ × ℕ). HasInboxes after (slice_set nonempty_inboxes x.0 (slice_set (get_or nonempty_inboxes x.0 []) x.1 (has_letter after.links n)))) (sym end) (changed n change)

-- ---- at the start no letter lies anywhere

pub none_in : (n i : ℕ) → get_or (replicate n false) i false ≡ false
none_in zero i = refl
none_in (suc n) zero = refl
none_in (suc n) (suc i) = none_in n i

none_in_any : (n s i : ℕ) → get_or (get_or (replicate n (replicate 64 false)) s []) i false ≡ false
none_in_any zero s i = refl
none_in_any (suc n) zero i = none_in 64 i
none_in_any (suc n) (suc s) i = none_in_any n s i

row_size : (n s : ℕ) → s < n → length (get_or (replicate n (replicate 64 false)) s []) ≡ 64
row_size zero s h = absurd (omega arith)
row_size (suc n) zero h = refl
row_size (suc n) (suc s) h = row_size n s (omega arith)

no_letter : (links : List (List Letter)) (n : ℕ) → All (λ (letters : List Letter). letters ≡ []) links → has_letter links n ≡ false
no_letter [] n empty = refl
no_letter (first ∷ links) zero empty = ap (λ (letters : List Letter). is_some (slice_get letters 0)) (empty 0 [] (omega arith))
no_letter (first ∷ links) (suc n) empty = no_letter links n (λ k d h. empty (suc k) d (omega arith))

and_false : (a b : Bool) → b ≡ false → (a && b) ≡ false
and_false true b none = none
and_false false b none = refl

no_take : (seen : SeenWorld) (i : ℕ) (o : Option WorldSite) → All (λ (letters : List Letter). letters ≡ []) seen.links → can_at seen.links (event.Take i) o ≡ false
no_take seen i None empty = refl
no_take seen i (Some world_site) empty = and_false _ (is_some (next_in seen.links world_site.core i)) (no_letter seen.links (link_to world_site.core.site (place_at world_site.core i)) empty)

pub none_heard : (seen : SeenWorld) (n : ℕ) (nonempty_inboxes : List (List Bool)) → length seen.sites ≡ n → All (λ (letters : List Letter). letters ≡ []) seen.links → nonempty_inboxes ≡ replicate n (replicate 64 false) → HasInboxes seen nonempty_inboxes
none_heard seen n nonempty_inboxes count empty is = subst (HasInboxes seen) (sym is) (record {
  every_site = length-replicate n (replicate 64 false) ∙ sym count;
  size = λ s h. row_size n s (omega (arith, h, count));
  places = λ s i. none_in_any n s i ∙ sym (no_take seen i (slice_get seen.sites s) empty);
})
