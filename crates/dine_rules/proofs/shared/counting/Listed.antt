-- The list of enabled events has each enabled event, and has it once.
use Rattle.std.proofs.Common.{◌≡◌, ℕ, zero, suc, ◌+◌, ◌-◌, ◌<◌, ◌≤◌, true, List, length, slice_get, Option, Some, refl, sym, ◌∙◌, ap, subst, inl, inr, arith}
use Rattle.std.specs.List.{flat_map, range_with_len}
use Rattle.std.proofs.lemmas.Bool.{cases_lt}
use Rattle.std.proofs.lemmas.List.Concat.{flat_map-cons}
use Rattle.std.proofs.lemmas.Option.{same_Some, slice_get-map, slice_get_within}
use Rattle.dine_graph.specs.Plan.{SeenPlan, IsPlan, edges_of, site_count}
use Rattle.dine_rules.specs.declared.events.Event.{Event}
use Rattle.dine_rules.specs.declared.events.EventKind.{EventKind}
use Rattle.dine_rules.specs.declared.events.EventKind.TheVariants as event
use Rattle.dine_rules.specs.Local.{LocalState, meal_fails}
use Rattle.dine_rules.specs.Steps.{IsPlaceWithin, Step, may, shape_of}
use Rattle.dine_rules.specs.World.{Reaches, WorldState, enabled_events, events_at, is_enabled, kinds_at, next_letter, state_of, step_of, world_after}
use Rattle.dine_rules.proofs.shared.counting.KindNumbers.{choices, found_at, kind_ask, kind_close, kind_done, kind_give, kind_take, kinds_count, of_sites, passed, passed_next, past_gives, placeless, steps}
use Rattle.dine_rules.proofs.lists.EachOnce.{EachOnce, StandsIn, of_either, once_append, once_filter}
use Rattle.dine_rules.proofs.shared.one_site.Shapes.{event_within}
use Rattle.dine_rules.proofs.shared.lists.Options.{option_map_parts, some_of}
use Rattle.dine_rules.proofs.shared.links.WorldStreams.{IsStepOf, event_is_step, reached_kept}

-- ---- the kinds of a site with d places

module _ (d : ℕ) where
  -- the number of a kind among all kinds
  abbrev number_of : EventKind → ℕ
  number_of (event.Take i) = i
  number_of (event.Give i) = d + i
  number_of event.End = d + d
  number_of event.Begin = d + d + 1
  number_of event.Quit = d + d + 2
  number_of event.Hungry = d + d + 3
  number_of (event.Ask i) = d + d + placeless + i
  number_of (event.Done i) = d + d + placeless + d + i
  number_of (event.Close i) = d + d + placeless + d + d + i

  -- its place, where it has one, is one of these
  abbrev pub IsPlaceOf : EventKind → Type 0
  IsPlaceOf kind = IsPlaceWithin d (shape_of kind)

  -- the kind with this number
  abbrev kind_at : ℕ → Option EventKind
  kind_at n = slice_get (kinds_at (range_with_len 0 d)) n

  -- a kind has its number
  has_number : (kind : EventKind) → IsPlaceOf kind → kind_at (number_of kind) ≡ Some kind
  has_number (event.Take i) h = kind_take d i h
  has_number (event.Give i) h = kind_give d (d + i) (omega arith) (omega arith) ∙ ap (λ (k : ℕ). Some (event.Give k)) (let e : d + i - d ≡ i = omega arith in e)
  has_number event.End h = past_gives d (d + d) (omega arith) (omega arith) ∙ ap (slice_get (steps d)) (let e : d + d - d - d ≡ 0 = omega arith in e)
  has_number event.Begin h = past_gives d (d + d + 1) (omega arith) (omega arith) ∙ ap (slice_get (steps d)) (let e : d + d + 1 - d - d ≡ 1 = omega arith in e)
  has_number event.Quit h = past_gives d (d + d + 2) (omega arith) (omega arith) ∙ ap (slice_get (steps d)) (let e : d + d + 2 - d - d ≡ 2 = omega arith in e)
  has_number event.Hungry h = past_gives d (d + d + 3) (omega arith) (omega arith) ∙ ap (slice_get (steps d)) (let e : d + d + 3 - d - d ≡ 3 = omega arith in e)
  has_number (event.Ask i) h = kind_ask d (d + d + placeless + i) (omega arith) (omega arith) (omega arith) (omega arith)
      ∙ ap (λ (k : ℕ). Some (event.Ask k)) (let e : d + d + placeless + i - d - d - placeless ≡ i = omega arith in e)
  has_number (event.Done i) h = kind_done d (d + d + placeless + d + i) (omega arith) (omega arith) (omega arith) (omega arith) (omega arith)
      ∙ ap (λ (k : ℕ). Some (event.Done k)) (let e : d + d + placeless + d + i - d - d - placeless - d ≡ i = omega arith in e)
  has_number (event.Close i) h = kind_close d (d + d + placeless + d + d + i) (omega arith) (omega arith) (omega arith) (omega arith) (omega arith) (omega arith)
      ∙ ap (λ (k : ℕ). Some (event.Close k)) (let e : d + d + placeless + d + d + i - d - d - placeless - d - d ≡ i = omega arith in e)

  -- no other number is that of the kind
  numbered : (n : ℕ) (kind other : EventKind) → kind_at n ≡ Some kind → kind_at n ≡ Some other → number_of other ≡ n → number_of kind ≡ n
  numbered n kind other is here at = ap number_of (same_Some kind other (sym is ∙ here)) ∙ at

  plain_number : (n k : ℕ) (kind : EventKind) → kind_at n ≡ Some kind → d ≤ n → d ≤ n - d → n - d - d ≡ k → k < placeless → number_of kind ≡ n
  plain_number n zero kind is a b at few = numbered n kind event.End is (past_gives d n a b ∙ ap (slice_get (steps d)) at) (omega arith)
  plain_number n (suc zero) kind is a b at few = numbered n kind event.Begin is (past_gives d n a b ∙ ap (slice_get (steps d)) at) (omega arith)
  plain_number n (suc (suc zero)) kind is a b at few = numbered n kind event.Quit is (past_gives d n a b ∙ ap (slice_get (steps d)) at) (omega arith)
  plain_number n (suc (suc (suc zero))) kind is a b at few = numbered n kind event.Hungry is (past_gives d n a b ∙ ap (slice_get (steps d)) at) (omega arith)
  plain_number n (suc (suc (suc (suc k)))) kind is a b at few = absurd (omega arith)

  last_number : (n : ℕ) (kind : EventKind) → kind_at n ≡ Some kind → d ≤ n → d ≤ n - d → placeless ≤ n - d - d → number_of kind ≡ n
  last_number n kind is a b c = elim (cases_lt (n - d - d - placeless) d) [
    | inl ask ↦ numbered n kind (event.Ask (n - d - d - placeless)) is (kind_ask d n a b c ask) (omega arith)
    | inr past ↦ elim (cases_lt (n - d - d - placeless - d) d) [
      | inl done ↦ numbered n kind (event.Done (n - d - d - placeless - d)) is (kind_done d n a b c past done) (omega arith)
      | inr behind ↦ numbered n kind (event.Close (n - d - d - placeless - d - d)) is
          (kind_close d n a b c past behind (omega (arith, slice_get_within (kinds_at (range_with_len 0 d)) n kind is, kinds_count d))) (omega arith)
    ]
  ]

  number_is : (n : ℕ) (kind : EventKind) → kind_at n ≡ Some kind → number_of kind ≡ n
  number_is n kind is = elim (cases_lt n d) [
    | inl take ↦ numbered n kind (event.Take n) is (kind_take d n take) refl
    | inr a ↦ elim (cases_lt (n - d) d) [
      | inl give ↦ numbered n kind (event.Give (n - d)) is (kind_give d n a give) (omega arith)
      | inr b ↦ elim (cases_lt (n - d - d) placeless) [
        | inl few ↦ plain_number n (n - d - d) kind is a b refl few
        | inr c ↦ last_number n kind is a b c
      ]
    ]
  ]

-- ---- the events of the sites

-- a number of the events of a site is that of the kind
event_kind : (s d n : ℕ) (e : Event) → slice_get (choices s d) n ≡ Some e → (kind : EventKind) × (kind_at d n ≡ Some kind) × (record { site = s; kind = kind } ≡ e)
event_kind s d n e is = option_map_parts (λ kind. record { site = s; kind = kind }) (kind_at d n) e (sym (slice_get-map (λ kind. record { site = s; kind = kind }) (kinds_at (range_with_len 0 d)) n) ∙ is)

-- so each event of a site stands there once
once_at : (s d : ℕ) → EachOnce (choices s d)
once_at s d n m e a b =
    let v = event_kind s d n e a in
    let w = event_kind s d m e b in
    let same : v.0 ≡ w.0 = ap (λ (x : Event). x.kind) (v.2 ∙ sym w.2) in
    sym (number_is d n v.0 v.1) ∙ ap (number_of d) same ∙ number_is d m w.0 w.1

module _ (plan : SeenPlan) where
  abbrev all_from : ℕ → ℕ → List Event
  all_from a n = flat_map (events_at plan) (range_with_len a n)

  -- the events of a site are its own, and those of later sites are not
  own_site : (s : ℕ) (e : Event) → StandsIn e (events_at plan s) → e.site ≡ s
  own_site s e (n, is) = let w = event_kind s (length (edges_of plan s)) n e is in ap (λ (x : Event). x.site) (sym w.2)

  later_site : (a n : ℕ) (e : Event) → StandsIn e (all_from a n) → a ≤ e.site
  later_site a zero e (n, is) = absurd cc
  later_site a (suc n) e h = elim (of_either e (events_at plan a) (all_from (a + 1) n) (subst (StandsIn e) (flat_map-cons (events_at plan) a (range_with_len (a + 1) n)) h)) [
    | inl here ↦ omega (arith, own_site a e here)
    | inr later ↦ omega (arith, later_site (a + 1) n e later)
  ]

  -- so each event stands once among those of all sites
  once_from : (a n : ℕ) → EachOnce (all_from a n)
  once_from a zero = λ n m e here is. absurd cc
  once_from a (suc n) = subst EachOnce (sym (flat_map-cons (events_at plan) a (range_with_len (a + 1) n)))
      (once_append (events_at plan a) (all_from (a + 1) n) (once_at a (length (edges_of plan a))) (once_from (a + 1) n)
      (λ e here later. absurd (omega (arith, own_site a e here, later_site (a + 1) n e later))))

  -- and once among the enabled ones
  pub listed_once : (world : WorldState) (e : Event) (n m : ℕ) → slice_get (enabled_events plan world) n ≡ Some e → slice_get (enabled_events plan world) m ≡ Some e → n ≡ m
  listed_once world e n m a b = once_filter (is_enabled plan world) (all_from 0 (site_count plan)) (once_from 0 (site_count plan)) n m e a b

-- ---- the enabled events

module _ (plan : SeenPlan) (world : WorldState) (s : ℕ) where
  abbrev state : LocalState
  state = state_of world s

  -- the step of the event may be done
  pub by_step : (first one : Step) → ◌≡◌ {A = Option Step} (Some first) (Some one) → may plan s state one ≡ true → may plan s state first ≡ true
  by_step first one is needs = subst (λ (x : Step). may plan s state x ≡ true) (sym (same_Some first one is)) needs

  -- so its place is one of the site, which has as many as edges
  pub place_of_step : length state.traffic ≡ length (edges_of plan s) → (kind : EventKind) (one : Step) → step_of plan world s kind ≡ Some one → may plan s state one ≡ true → IsPlaceOf (length (edges_of plan s)) kind
  place_of_step degree kind one is needs = subst (λ (n : ℕ). IsPlaceWithin n (shape_of kind)) degree (event_within plan s state (meal_fails plan s state) (next_letter plan world s) kind one is needs)

-- each enabled event of a world that events reach stands among the enabled ones
pub listed : (plan : SeenPlan) (events : List Event) (world : WorldState) (e : Event) → IsPlan plan → Reaches plan events world → is_enabled plan world e ≡ true → StandsIn e (enabled_events plan world)
listed plan events world e is_plan reached enabled =
    let new = some_of (world_after plan world e) enabled in
    let one : IsStepOf plan world e new.0 = event_is_step plan world e new.0 new.1 in
    let degree : length (state_of world e.site).traffic ≡ length (edges_of plan e.site) = ((reached_kept plan events world is_plan reached).keeps e.site one.is_site).every_place in
    let d : ℕ = length (edges_of plan e.site) in
    let n : ℕ = number_of d e.kind in
    let here : kind_at d n ≡ Some e.kind = has_number d e.kind (place_of_step plan world e.site degree e.kind one.step one.step_is one.needs) in
    let before : ℕ = passed (is_enabled plan world) (choices e.site d) n in (
      length (of_sites (is_enabled plan world) (events_at plan) e.site) + before,
      found_at (is_enabled plan world) (events_at plan) e.site (site_count plan) before e one.is_site (passed_next (is_enabled plan world) e.site d n e.kind here enabled),
    )
