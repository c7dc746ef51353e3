-- Which sites have no enabled event after an event: all that had none, except the site that does it and the one that
-- gets its letter.
use Rattle.std.proofs.Common.{◌≡◌, ◌≢◌, ℕ, zero, suc, ◌<◌, ◌&&◌, nat_lt, Bool, true, false, List, [], ◌∷◌, length, get_or, slice_get, slice_set, Option, Some, None, is_some, option_and_then, refl, sym, ◌∙◌, ap, subst, inl, inr, arith, IfSome}
use Rattle.std.specs.List.{range_with_len}
use Rattle.std.specs.Option.{option_map_or}
use Rattle.std.proofs.lemmas.Bool.{and_parts, cases_eq, cases_lt, false≢true, le-ltb, ltb-true}
use Rattle.std.proofs.lemmas.List.{get_or-set_same, get_or-set_other, length-set}
use Rattle.std.proofs.lemmas.List.Elements.{filter_agree}
use Rattle.std.proofs.lemmas.Option.{get_or_from_slice_get, slice_get_within}
use Rattle.dine_graph.specs.Plan.{SeenPlan, edges_of, site_count}
use Rattle.dine_rules.specs.declared.events.Event.{Event}
use Rattle.dine_rules.specs.declared.events.EventKind.{EventKind}
use Rattle.dine_rules.specs.declared.events.EventKind.TheVariants as event
use Rattle.dine_rules.specs.declared.letters.Letter.{Letter}
use Rattle.dine_rules.specs.Local.{edge_at, neighbour_at}
use Rattle.dine_rules.specs.declared.events.Shape.{Shape}
use Rattle.dine_rules.specs.declared.events.Shape.TheVariants.{Takes, Puts, Alone}
use Rattle.dine_rules.specs.Steps.{Step, shape_of}
use Rattle.dine_rules.specs.World.{WorldState, kinds_at, place_of, state_of}
use Rattle.dine_world.specs.declared.world.sites.WorldSite.{WorldSite}
use Rattle.dine_world.specs.private.EnabledSites.{HasAllEnabled, HasReceiver, IsStill, receiver_of, with_receiver}
use Rattle.dine_site.specs.Core.{SeenCore}
use Rattle.dine_world.specs.private.Counts.{HasCounts, kinds_now}
use Rattle.dine_world.specs.private.Inboxes.{has_letter}
use Rattle.dine_site.specs.LinkNumbers.{link_from, link_to}
use Rattle.dine_site.specs.Places.{neighbour_of, place_at}
use Rattle.dine_site.specs.NextEvent.{has_place}
use Rattle.dine_world.specs.WorldSites.{can_do, next_in}
use Rattle.dine_world.specs.private.StepsOfSites.{MovesLetters}
use Rattle.dine_world.specs.Worlds.{IsWorldOf, SeenWorld, can_at, can_happen, number_to}
use Rattle.dine_rules.proofs.shared.links.Across.{across}
use Rattle.dine_world.proofs.all_sites.LinkNumbers.{from_is_to, same_place}
use Rattle.dine_site.proofs.shared.one_site.Stands.{place_is}
use Rattle.dine_world.proofs.all_sites.WorldSteps.{as_many_places, from_is, to_is, world_site_there}

-- ---- the set with the receiver

-- the site does not get the letter of an event of this shape
abbrev IsNoReceiver : SeenCore → Shape → ℕ → Type 0
IsNoReceiver core (Takes i) s = Unit {0}
IsNoReceiver core (Puts i) s = s ≢ neighbour_of core.site (place_at core i)
IsNoReceiver core Alone s = Unit {0}

not_in : (may_be_enabled : List Bool) (n s : ℕ) → n < length may_be_enabled → get_or (slice_set may_be_enabled n true) s false ≡ false → (get_or may_be_enabled s false ≡ false) × (s ≢ n)
not_in may_be_enabled n s within out = elim (cases_eq s n) [
  | inl same ↦ absurd (false≢true (sym out ∙ ap (λ (k : ℕ). get_or (slice_set may_be_enabled n true) k false) same ∙ get_or-set_same may_be_enabled n true false within))
  | inr other ↦ (sym (get_or-set_other may_be_enabled n s true false other) ∙ out, other)
]

left_out : (core : SeenCore) (shape : Shape) (may_be_enabled : List Bool) (s : ℕ) → length may_be_enabled ≡ 64 → HasReceiver core shape → get_or (with_receiver core shape may_be_enabled) s false ≡ false
    → (get_or may_be_enabled s false ≡ false) × IsNoReceiver core shape s
left_out core (Takes i) may_be_enabled s size fits out = (out, tt)
left_out core (Puts i) may_be_enabled s size fits out = not_in may_be_enabled (neighbour_of core.site (place_at core i)) s (omega (arith, size, fits.1)) out
left_out core Alone may_be_enabled s size fits out = (out, tt)

as_long : (core : SeenCore) (shape : Shape) (may_be_enabled : List Bool) → length (with_receiver core shape may_be_enabled) ≡ length may_be_enabled
as_long core (Takes i) may_be_enabled = refl
as_long core (Puts i) may_be_enabled = length-set may_be_enabled (neighbour_of core.site (place_at core i)) true
as_long core Alone may_be_enabled = refl

-- the site that gets a letter has a number below 64
pub receiver_within : (core : SeenCore) (shape : Shape) → HasReceiver core shape → IfSome (receiver_of core shape) (λ s. s < 64)
receiver_within core (Takes i) fits = tt
receiver_within core (Puts i) fits = fits.1
receiver_within core Alone fits = tt

-- ---- the links

pub get_other : {X : Type 0} (xs : List X) (i j : ℕ) (x : X) → j ≢ i → slice_get (slice_set xs i x) j ≡ slice_get xs j
get_other [] i j x other = refl
get_other (y ∷ xs) zero zero x other = absurd (other refl)
get_other (y ∷ xs) zero (suc j) x other = refl
get_other (y ∷ xs) (suc i) zero x other = refl
get_other (y ∷ xs) (suc i) (suc j) x other = get_other xs i j x (λ same. other (ap suc same))

-- ---- what another site may do

module _ (plan : SeenPlan) (world : WorldState) (seen : SeenWorld) (stands : IsWorldOf plan world seen) (s : ℕ) (is_s : s < site_count plan) (past : WorldSite) where
  abbrev core : SeenCore
  core = (get_or seen.sites s past).core

  -- the other end of a place
  receiver_is : (i : ℕ) → i < length core.places → neighbour_of core.site (place_at core i) ≡ neighbour_at plan s i
  receiver_is i h =
      ap (neighbour_of core.site) (place_is plan (state_of world s) core (stands.sites.stands s past is_s).core i h)
      ∙ ap (λ (x : ℕ). neighbour_at plan x i) (stands.sites.site s past is_s)

  at_s : (i : ℕ) → i < length core.places → i < length (edges_of plan s)
  at_s i h = omega (arith, h, as_many_places plan world seen stands s is_s past)

  fits : (shape : Shape) → has_place core shape ≡ true → HasReceiver core shape
  fits (Takes i) there = tt
  fits (Puts i) there =
      let h : i < length core.places = ltb-true i (length core.places) there in
      (h, omega (arith, receiver_is i h, (across plan s i stands.reached.is_plan (at_s i h)).is_site, stands.reached.is_plan.few_sites))
  fits Alone there = tt

  module _ (t : ℕ) (is_t : t < site_count plan) where
    abbrev other : SeenCore
    other = (get_or seen.sites t past).core

    -- a letter to another site lies in none of the links to this one
    elsewhere : (i j : ℕ) → i < length core.places → j < length other.places → t ≢ neighbour_of core.site (place_at core i)
        → link_to other.site (place_at other j) ≢ link_from core.site (place_at core i)
    elsewhere i j h k apart same =
        let n : ℕ = neighbour_at plan s i in
        let m : ℕ = place_of plan n (edge_at plan s i) in
        let over = across plan s i stands.reached.is_plan (at_s i h) in
        let at_t : j < length (edges_of plan t) = omega (arith, k, as_many_places plan world seen stands t is_t past) in
        let numbers : number_to plan t j ≡ number_to plan n m = sym (to_is plan world seen stands t is_t past j k) ∙ same ∙ from_is plan world seen stands s is_s past i h ∙ from_is_to plan s i n m over in
        apart ((same_place plan t j n m stands.reached.is_plan at_t over.within numbers).0 ∙ sym (receiver_is i h))

    -- whether a letter lies in a link to another site
    letters_same : (shape : Shape) (one : Step) (links : List (List Letter)) → has_place core shape ≡ true → t ≢ s → IsNoReceiver core shape t → MovesLetters plan (state_of world s) core shape one seen.links links
        → (j : ℕ) → j < length other.places → is_some (next_in links other j) ≡ is_some (next_in seen.links other j)
    letters_same (Takes i) one links there differs apart moved j k =
        let h : i < length core.places = ltb-true i (length core.places) there in
        let at_t : j < length (edges_of plan t) = omega (arith, k, as_many_places plan world seen stands t is_t past) in
        let other_link : link_to other.site (place_at other j) ≢ link_to core.site (place_at core i) = λ same.
        differs ((same_place plan t j s i stands.reached.is_plan at_t (at_s i h) (sym (to_is plan world seen stands t is_t past j k) ∙ same ∙ to_is plan world seen stands s is_s past i h)).0) in
        ap (λ (l : List (List Letter)). has_letter l (link_to other.site (place_at other j))) moved
        ∙ ap (λ (o : Option (List Letter)). is_some (option_and_then (λ (letters : List Letter). slice_get letters 0) o))
        (get_other seen.links (link_to core.site (place_at core i)) (link_to other.site (place_at other j)) _ other_link)
    letters_same (Puts i) one links there differs apart (l, is, moved) j k =
        ap (λ (l : List (List Letter)). has_letter l (link_to other.site (place_at other j))) moved
        ∙ ap (λ (o : Option (List Letter)). is_some (option_and_then (λ (letters : List Letter). slice_get letters 0) o))
        (get_other seen.links (link_from core.site (place_at core i)) (link_to other.site (place_at other j)) _ (elsewhere i j (ltb-true i (length core.places) there) k apart))
    letters_same Alone one links there differs apart moved j k = ap (λ (l : List (List Letter)). has_letter l (link_to other.site (place_at other j))) moved

    module _ (shape : Shape) (one : Step) (links : List (List Letter)) (there : has_place core shape ≡ true) (differs : t ≢ s) (apart : IsNoReceiver core shape t) (moved : MovesLetters plan (state_of world s) core shape one seen.links links) where
      -- what another site can do is the same
      same_can : (kind : EventKind) → can_do links other kind ≡ can_do seen.links other kind
      same_can (event.Take j) = elim (cases_lt j (length other.places)) [
        | inl k ↦ ap (λ (b : Bool). nat_lt j (length other.places) && b) (letters_same shape one links there differs apart moved j k)
        | inr beyond ↦ ap (λ (b : Bool). b && is_some (next_in links other j)) (le-ltb j (length other.places) beyond)
            ∙ sym (ap (λ (b : Bool). b && is_some (next_in seen.links other j)) (le-ltb j (length other.places) beyond))
      ]
      same_can (event.Give j) = refl
      same_can event.End = refl
      same_can event.Begin = refl
      same_can event.Quit = refl
      same_can event.Hungry = refl
      same_can (event.Ask j) = refl
      same_can (event.Done j) = refl
      same_can (event.Close j) = refl

-- ---- the set after an event

module _ (seen : SeenWorld) (e : Event) (can : can_happen seen e ≡ true) (plan : SeenPlan) (world : WorldState) (stands : IsWorldOf plan world seen)
    (world_site : WorldSite) (is : world_site ≡ get_or seen.sites e.site world_site) where
  there_is : (found : WorldSite) × (slice_get seen.sites e.site ≡ Some found) × (can_do seen.links found.core e.kind ≡ true)
  there_is = world_site_there seen.links e.kind (slice_get seen.sites e.site) can

  is_site : e.site < site_count plan
  is_site = omega (arith, slice_get_within seen.sites e.site there_is.0 there_is.1, stands.sites.count)

  abbrev here : WorldSite
  here = get_or seen.sites e.site world_site

  pub has_its_place : has_place here.core (shape_of e.kind) ≡ true
  has_its_place = (and_parts _ _ (subst (λ (x : WorldSite). can_do seen.links x.core e.kind ≡ true) (sym (get_or_from_slice_get seen.sites e.site there_is.0 world_site there_is.1)) there_is.2)).0

  -- the receiver is a site
  pub receiver_fits : HasReceiver world_site.core (shape_of e.kind)
  receiver_fits = subst (λ (x : WorldSite). HasReceiver x.core (shape_of e.kind)) (sym is) (fits plan world seen stands e.site is_site world_site (shape_of e.kind) has_its_place)

  module _ (one : Step) (changed : WorldSite) (links : List (List Letter)) (may_be_enabled : List Bool) (moved : MovesLetters plan (state_of world e.site) here.core (shape_of e.kind) one seen.links links) where
    abbrev after : SeenWorld
    after = record { sites = slice_set seen.sites e.site changed; links = links; edges = seen.edges; bound = seen.bound }

    can_not_there : (t : ℕ) (o : Option WorldSite) → slice_get seen.sites t ≡ o → t ≢ e.site → IsNoReceiver here.core (shape_of e.kind) t → (kind : EventKind) → can_at seen.links kind o ≡ false → can_at links kind o ≡ false
    can_not_there t None found differs apart kind h = refl
    can_not_there t (Some there) found differs apart kind h =
        let same : get_or seen.sites t world_site ≡ there = get_or_from_slice_get seen.sites t there world_site found in
        let is_t : t < site_count plan = omega (arith, slice_get_within seen.sites t there found, stands.sites.count) in
        subst (λ (x : WorldSite). can_do links x.core kind ≡ can_do seen.links x.core kind) same
        (same_can plan world seen stands e.site is_site world_site t is_t (shape_of e.kind) one links has_its_place differs apart moved kind) ∙ h

    still_after : (t : ℕ) → t ≢ e.site → IsNoReceiver here.core (shape_of e.kind) t → IsStill seen t → IsStill after t
    still_after t other apart still kind =
        ap (can_at links kind) (get_other seen.sites e.site t changed other) ∙ can_not_there t (slice_get seen.sites t) refl other apart kind (still kind)

    -- all sites outside the set with the receiver have no enabled event
    pub may_be_enabled_after : HasAllEnabled seen may_be_enabled → HasAllEnabled after (with_receiver world_site.core (shape_of e.kind) may_be_enabled)
    may_be_enabled_after before = subst (λ (x : WorldSite). HasAllEnabled after (with_receiver x.core (shape_of e.kind) may_be_enabled)) (sym is) (record {
      size = as_long here.core (shape_of e.kind) may_be_enabled ∙ before.size;
      others = λ t out.
          let w = left_out here.core (shape_of e.kind) may_be_enabled t before.size (fits plan world seen stands e.site is_site world_site (shape_of e.kind) has_its_place) out in
          elim (cases_eq t e.site) [
            | inl same ↦ absurd (false≢true (sym (before.others t w.0 e.kind) ∙ ap (λ (k : ℕ). can_happen seen (record { site = k; kind = e.kind })) same ∙ can))
            | inr other ↦ still_after t other w.1 (before.others t w.0)
          ];
    })

    -- the events that another site can do are the same
    same_kinds : (t : ℕ) (o : Option WorldSite) → slice_get seen.sites t ≡ o → t ≢ e.site → IsNoReceiver here.core (shape_of e.kind) t
        → option_map_or (λ (x : WorldSite). kinds_now links x.core) o [] ≡ option_map_or (λ (x : WorldSite). kinds_now seen.links x.core) o []
    same_kinds t None found differs apart = refl
    same_kinds t (Some there) found differs apart =
        let same : get_or seen.sites t world_site ≡ there = get_or_from_slice_get seen.sites t there world_site found in
        let is_t : t < site_count plan = omega (arith, slice_get_within seen.sites t there found, stands.sites.count) in
        filter_agree (can_do links there.core) (can_do seen.links there.core)
        (λ kind. subst (λ (x : WorldSite). can_do links x.core kind ≡ can_do seen.links x.core kind) same
        (same_can plan world seen stands e.site is_site world_site t is_t (shape_of e.kind) one links has_its_place differs apart moved kind))
        (kinds_at (range_with_len 0 (length there.core.places)))

    -- the counts are right for all sites outside the set with the site itself and the receiver
    pub counts_after : (counts : List ℕ) → HasCounts seen counts may_be_enabled → HasCounts after counts (slice_set (with_receiver world_site.core (shape_of e.kind) may_be_enabled) e.site true)
    counts_after counts before = subst (λ (x : WorldSite). HasCounts after counts (slice_set (with_receiver x.core (shape_of e.kind) may_be_enabled) e.site true)) (sym is) (record {
      every_site = before.every_site ∙ sym (length-set seen.sites e.site changed);
      size = length-set (with_receiver here.core (shape_of e.kind) may_be_enabled) e.site true ∙ as_long here.core (shape_of e.kind) may_be_enabled ∙ before.size;
      others = λ t out.
          let within : e.site < length (with_receiver here.core (shape_of e.kind) may_be_enabled) = omega (arith, as_long here.core (shape_of e.kind) may_be_enabled, before.size, is_site, stands.reached.is_plan.few_sites) in
          let w = not_in (with_receiver here.core (shape_of e.kind) may_be_enabled) e.site t within out in
          let v = left_out here.core (shape_of e.kind) may_be_enabled t before.size (fits plan world seen stands e.site is_site world_site (shape_of e.kind) has_its_place) w.0 in
          before.others t v.0
          ∙ sym (ap length (ap (λ (o : Option WorldSite). option_map_or (λ (x : WorldSite). kinds_now links x.core) o []) (get_other seen.sites e.site t changed w.1) ∙ same_kinds t (slice_get seen.sites t) refl w.1 v.1));
    })
