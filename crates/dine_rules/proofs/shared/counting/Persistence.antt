-- An event that is enabled stays enabled while other sites act.
use Rattle.std.proofs.Common.{◌≡◌, ◌≢◌, ◌⊎◌, ℕ, zero, suc, ◌<◌, nat_lt, true, List, [], ◌∷◌, ◌++◌, length, get_or, slice_get, slice_set, Option, Some, None, is_some, refl, sym, ◌∙◌, ap, subst, inl, inr, append-nil}
use Rattle.std.specs.Option.{option_map, option_and_then}
use Rattle.std.proofs.lemmas.Bool.{cond-true, lt-ltb}
use Rattle.std.proofs.lemmas.List.{get_or-set_other}
use Rattle.dine_graph.specs.Plan.{SeenPlan, site_count}
use Rattle.dine_rules.specs.declared.letters.Letter.{Letter}
use Rattle.dine_rules.specs.declared.events.Event.{Event}
use Rattle.dine_rules.specs.declared.events.EventKind.{EventKind}
use Rattle.dine_rules.specs.declared.events.EventKind.TheVariants as event
use Rattle.dine_rules.specs.Local.{LocalState, Traffic, no_traffic, traffic_at, edge_at, meal_fails, neighbour_at}
use Rattle.dine_rules.specs.Steps.{Step, End, Take, after, may}
use Rattle.dine_rules.specs.World.{WorldState, no_state, state_of, place_of, put_to, next_letter, step_of, local_after, site_after, world_after, is_enabled}
use Rattle.dine_rules.proofs.shared.lists.Counting.{slice_get-before}
use Rattle.dine_rules.proofs.shared.one_site.Shapes.{by_moves, moved, step_shape}
use Rattle.dine_rules.proofs.shared.lists.Options.{option_map_parts, some_of}
use Rattle.dine_rules.proofs.shared.links.WorldStreams.{IsStepOf, event_is_step}

-- an element of a changed list is the old one, or the new one at its position
pub set_cases : {X : Type 0} (xs : List X) (k j : ℕ) (y d : X) → (get_or (slice_set xs k y) j d ≡ get_or xs j d) ⊎ ((j ≡ k) × (get_or (slice_set xs k y) j d ≡ y))
set_cases [] k j y d = inl refl
set_cases (x ∷ xs) zero zero y d = inr (refl, refl)
set_cases (x ∷ xs) zero (suc j) y d = inl refl
set_cases (x ∷ xs) (suc k) zero y d = inl refl
set_cases (x ∷ xs) (suc k) (suc j) y d = elim (set_cases xs k j y d) [
  | inl same ↦ inl same
  | inr w ↦ inr (ap suc w.0, w.1)
]

-- ---- letters are only put behind those put

-- new letters stand behind the old
pub record IsLonger (old new : List Letter) : Type 0 where
  pub more : List Letter
  pub is : new ≡ old ++ more

pub longer_same : (letters : List Letter) → IsLonger letters letters
longer_same letters = record { more = []; is = sym (append-nil letters) }

longer_place : (traffics : List Traffic) (k j : ℕ) (traffic : Traffic) → IsLonger (get_or traffics k no_traffic).put traffic.put → IsLonger (get_or traffics j no_traffic).put (get_or (slice_set traffics k traffic) j no_traffic).put
longer_place traffics k j traffic longer = elim (set_cases traffics k j traffic no_traffic) [
  | inl same ↦ subst (λ (x : Traffic). IsLonger (get_or traffics j no_traffic).put x.put) (sym same) (longer_same (get_or traffics j no_traffic).put)
  | inr w ↦ subst (λ (x : Traffic). IsLonger (get_or traffics j no_traffic).put x.put) (sym w.1)
      (subst (λ (x : ℕ). IsLonger (get_or traffics x no_traffic).put traffic.put) (sym w.0) longer)
]

-- each step only adds to what was put
pub step_puts : (plan : SeenPlan) (s : ℕ) (state : LocalState) (step : Step) (j : ℕ) → IsLonger (traffic_at state j).put (traffic_at (after plan s state step) j).put
step_puts plan s state step j = by_moves plan s state (λ new. IsLonger (traffic_at state j).put (traffic_at new j).put) (step_shape step) (after plan s state step) (moved plan s state step)
    (λ i l is. longer_place state.traffic i j _ (record { more = l ∷ []; is = refl }))
    (λ i l is. longer_place state.traffic i j _ (longer_same (traffic_at state i).put))
    (λ same is. subst (λ (t : List Traffic). IsLonger (traffic_at state j).put (get_or t j no_traffic).put) (sym same) (longer_same (traffic_at state j).put))

pub longer_get : (old new : List Letter) (k : ℕ) (l : Letter) → IsLonger old new → slice_get old k ≡ Some l → slice_get new k ≡ Some l
longer_get old new k l longer h = ap (λ (x : List Letter). slice_get x k) longer.is ∙ slice_get-before old longer.more l k h

-- ---- one site acts, and another looks on

module _ (plan : SeenPlan) (world : WorldState) (s : ℕ) (step : Step) where
  abbrev acted : WorldState
  acted = slice_set world s (after plan s (state_of world s) step)

  -- what each site put is in front of what it has put now
  puts_longer : (t j : ℕ) → IsLonger (traffic_at (state_of world t) j).put (traffic_at (state_of acted t) j).put
  puts_longer t j = elim (set_cases world s t (after plan s (state_of world s) step) no_state) [
    | inl same ↦ subst (λ (x : LocalState). IsLonger (traffic_at (state_of world t) j).put (traffic_at x j).put) (sym same) (longer_same (traffic_at (state_of world t) j).put)
    | inr w ↦ subst (λ (x : LocalState). IsLonger (traffic_at (state_of world t) j).put (traffic_at x j).put) (sym w.1)
        (subst (λ (x : ℕ). IsLonger (traffic_at (state_of world x) j).put (traffic_at (after plan s (state_of world s) step) j).put) (sym w.0) (step_puts plan s (state_of world s) step j))
  ]

  module _ (t : ℕ) (differs : t ≢ s) where
    -- the state of the other site stays
    pub state_stays : state_of acted t ≡ state_of world t
    state_stays = get_or-set_other world s t (after plan s (state_of world s) step) no_state differs

    -- and so does each letter that lies next in a link to it
    next_stays : (i : ℕ) (l : Letter) → next_letter plan world t i ≡ Some l → next_letter plan acted t i ≡ Some l
    next_stays i l h = ap (λ (x : LocalState). slice_get (put_to plan acted t i) (length (traffic_at x i).taken)) state_stays
        ∙ longer_get (put_to plan world t i) (put_to plan acted t i) (length (traffic_at (state_of world t) i).taken) l (puts_longer (neighbour_at plan t i) (place_of plan (neighbour_at plan t i) (edge_at plan t i))) h

    -- its events are the steps that they were
    step_stays : (kind : EventKind) (one : Step) → step_of plan world t kind ≡ Some one → step_of plan acted t kind ≡ Some one
    step_stays (event.Take i) one h =
        let w = option_map_parts (Take i) (next_letter plan world t i) one h in
        ap (option_map (Take i)) (next_stays i w.0 w.1) ∙ ap (λ (x : Step). Some x) w.2
    step_stays event.End one h = ap (λ (x : LocalState). Some (End (meal_fails plan t x))) state_stays ∙ h
    step_stays kind one h = h

-- the world after an event is that after its step
after_step : (plan : SeenPlan) (world : WorldState) (e : Event) (step : Step) → e.site < site_count plan
    → step_of plan world e.site e.kind ≡ Some step → may plan e.site (state_of world e.site) step ≡ true
    → world_after plan world e ≡ Some (slice_set world e.site (after plan e.site (state_of world e.site) step))
after_step plan world e step is_site is_step needs =
    cond-true (nat_lt e.site (site_count plan)) (option_map (slice_set world e.site) (site_after plan world e.site e.kind)) None (lt-ltb e.site (site_count plan) is_site)
    ∙ ap (λ (o : Option Step). option_map (slice_set world e.site) (option_and_then (local_after plan e.site (state_of world e.site)) o)) is_step
    ∙ ap (λ (o : Option LocalState). option_map (slice_set world e.site) o) (cond-true (may plan e.site (state_of world e.site) step) (Some (after plan e.site (state_of world e.site) step)) None needs)

-- After an event of another site, an event that was enabled leads its own site to the state that it led to before.
pub event_stays : (plan : SeenPlan) (world new : WorldState) (e other : Event) → (next : WorldState) → (w : IsStepOf plan world e next) → world_after plan world e ≡ Some next → world_after plan world other ≡ Some new → e.site ≢ other.site
    → world_after plan new e ≡ Some (slice_set new e.site (after plan e.site (state_of world e.site) w.step))
event_stays plan world new e other next w h o differs =
    let v = event_is_step plan world other new o in
    let same : state_of (acted plan world other.site v.step) e.site ≡ state_of world e.site = state_stays plan world other.site v.step e.site differs in
    subst (λ (x : WorldState). world_after plan x e ≡ Some (slice_set x e.site (after plan e.site (state_of world e.site) w.step))) (sym v.changes)
    (after_step plan (acted plan world other.site v.step) e w.step w.is_site
    (step_stays plan world other.site v.step e.site differs e.kind w.step w.step_is)
    (ap (λ (x : LocalState). may plan e.site x w.step) same ∙ w.needs)
    ∙ ap (λ (x : LocalState). Some (slice_set (acted plan world other.site v.step) e.site (after plan e.site x w.step))) same)

-- an enabled event stays enabled after an event of another site
pub stays_enabled : (plan : SeenPlan) (world new : WorldState) (e other : Event) → is_enabled plan world e ≡ true → world_after plan world other ≡ Some new → e.site ≢ other.site → is_enabled plan new e ≡ true
stays_enabled plan world new e other h o differs =
    let w = some_of (world_after plan world e) h in
    ap (λ (x : Option WorldState). is_some x) (event_stays plan world new e other w.0 (event_is_step plan world e w.0 w.1) w.1 o differs)
