-- In a world that events reach from the start, each site keeps its streams and each link is in order.
use Rattle.std.proofs.Common.{◌≡◌, ◌≢◌, ◌⊎◌, ℕ, zero, suc, ◌+◌, ◌<◌, ◌≤◌, nat_lt, true, List, [], ◌∷◌, ◌++◌, length, map, get_or, slice_get, slice_set, Some, refl, sym, ◌∙◌, ap, subst, inl, inr, arith, append_assoc, append-nil, length-append, add-zero, zero-add}
use Rattle.std.specs.List.{range_with_len}
use Rattle.std.specs.Option.{option_map, option_and_then}
use mathlib.Core.List.{IsPrefix}
use Rattle.std.proofs.lemmas.Bool.{and_parts, cases_eq, ltb-true}
use Rattle.std.proofs.lemmas.List.{get_or-set_same, get_or-set_other, length-set, length-map}
use Rattle.std.proofs.lemmas.Option.{same_Some}
use Rattle.std.proofs.lemmas.List.FromFn.{length-range_with_len}
use Rattle.dine_graph.specs.Plan.{SeenPlan, IsPlan, site_count, edges_of}
use Rattle.dine_rules.specs.declared.letters.Letter.{Letter}
use Rattle.dine_rules.specs.declared.events.Event.{Event}
use Rattle.dine_rules.specs.declared.events.EventKind.{EventKind}
use Rattle.dine_rules.specs.declared.events.EventKind.TheVariants as event
use Rattle.dine_rules.specs.Local.{LocalState, Traffic, no_traffic, traffic_at, start_of, edge_at, meal_fails, neighbour_at}
use Rattle.dine_rules.specs.declared.events.Shape.TheVariants.{Takes}
use Rattle.dine_rules.specs.Steps.{Step, Take, IsPlaceWithin, after, may, with_put}
use Rattle.dine_rules.specs.Streams.{KeepsStreams, IsProper}
use Rattle.dine_rules.specs.World.{WorldState, no_state, state_of, start, place_of, put_to, next_letter, step_of, local_after, site_after, world_after, after_events, Reaches, LinksAreOrdered}
use Rattle.dine_rules.proofs.shared.one_place.Placed.{IsPlaced, placed}
use Rattle.dine_rules.proofs.shared.links.Across.{across}
use Rattle.dine_rules.proofs.one_site.Offers.{is_proper-of}
use Rattle.dine_rules.proofs.shared.lists.Options.{cond_some_parts}
pub use Rattle.dine_rules.proofs.shared.lists.Options.{and_then_parts, option_map_parts, some_of}
use Rattle.dine_rules.proofs.shared.one_site.Shapes.{by_moves, may_within, moved, shape_is, step_shape}
use Rattle.dine_rules.proofs.shared.one_site.Site.{start_keeps, no_traffic_yet}
use Rattle.dine_rules.proofs.shared.one_site.SiteSteps.{step_keeps}

-- ---- what an event does

-- what events lead to, and one event more
pub events_then : (plan : SeenPlan) (old world new : WorldState) (events : List Event) (e : Event) → after_events plan old events ≡ Some world → world_after plan world e ≡ Some new → after_events plan old (events ++ e ∷ []) ≡ Some new
events_then plan old world new [] e h more = ap (λ (w : WorldState). option_and_then (λ next. Some next) (world_after plan w e)) (same_Some old world h) ∙ ap (option_and_then (λ next. Some next)) more
events_then plan old world new (first ∷ events) e h more =
    let w = and_then_parts (λ next. after_events plan next events) (world_after plan old first) world h in
    ap (option_and_then (λ next. after_events plan next (events ++ e ∷ []))) w.1 ∙ events_then plan w.0 world new events e w.2 more

-- a prefix is no longer
pub prefix_short : (taken put : List Letter) → IsPrefix taken put → length taken ≤ length put
prefix_short taken put h = omega (arith, length-append taken h.0, ap length h.1)

-- an event is one step of one site of the plan
pub record IsStepOf (plan : SeenPlan) (world : WorldState) (e : Event) (new : WorldState) : Type 0 where
  pub is_site : e.site < site_count plan
  pub step : Step
  pub step_is : step_of plan world e.site e.kind ≡ Some step
  pub needs : may plan e.site (state_of world e.site) step ≡ true
  pub changes : new ≡ slice_set world e.site (after plan e.site (state_of world e.site) step)

pub event_is_step : (plan : SeenPlan) (world : WorldState) (e : Event) (new : WorldState) → world_after plan world e ≡ Some new → IsStepOf plan world e new
event_is_step plan world e new h =
    let site = cond_some_parts (nat_lt e.site (site_count plan)) (option_map (slice_set world e.site) (site_after plan world e.site e.kind)) new h in
    let state = option_map_parts (slice_set world e.site) (site_after plan world e.site e.kind) new site.1 in
    let step = and_then_parts (local_after plan e.site (state_of world e.site)) (step_of plan world e.site e.kind) state.0 state.1 in
    let done = cond_some_parts (may plan e.site (state_of world e.site) step.0) (Some (after plan e.site (state_of world e.site) step.0)) state.0 step.2 in
    let is_after : after plan e.site (state_of world e.site) step.0 ≡ state.0 = same_Some (after plan e.site (state_of world e.site) step.0) state.0 done.1 in
    record {
      is_site = ltb-true e.site (site_count plan) site.0;
      step = step.0;
      step_is = step.1;
      needs = done.0;
      changes = sym state.2 ∙ ap (slice_set world e.site) (sym is_after);
    }

-- ---- how the lists at a place grow

-- letters are put behind those put, and the next letter of those offered behind those taken
pub record Grows (offered : List Letter) (old new : Traffic) : Type 0 where
  pub more : List Letter
  pub puts : new.put ≡ old.put ++ more
  pub takes : (new.taken ≡ old.taken) ⊎ ((l : Letter) × (slice_get offered (length old.taken) ≡ Some l) × (new.taken ≡ old.taken ++ l ∷ []))

Grows-same : (offered : List Letter) (traffic : Traffic) → Grows offered traffic traffic
Grows-same offered traffic = record { more = []; puts = sym (append-nil traffic.put); takes = inl refl }

-- place k changes, or stays
grows_at : (offered : ℕ → List Letter) (traffics : List Traffic) (k j : ℕ) (traffic : Traffic) → k < length traffics → Grows (offered k) (get_or traffics k no_traffic) traffic
    → Grows (offered j) (get_or traffics j no_traffic) (get_or (slice_set traffics k traffic) j no_traffic)
grows_at offered traffics k j traffic within here = elim (cases_eq j k) [
  | inl same ↦ subst (λ (x : ℕ). Grows (offered x) (get_or traffics x no_traffic) (get_or (slice_set traffics k traffic) x no_traffic)) (sym same)
      (subst (Grows (offered k) (get_or traffics k no_traffic)) (sym (get_or-set_same traffics k traffic no_traffic within)) here)
  | inr other ↦ subst (Grows (offered j) (get_or traffics j no_traffic)) (sym (get_or-set_other traffics k j traffic no_traffic other)) (Grows-same (offered j) (get_or traffics j no_traffic))
]

module _ (plan : SeenPlan) (s : ℕ) (state : LocalState) (offered : ℕ → List Letter) where
  -- what is taken is the next letter offered
  abbrev pub TakesNext : Step → Type 0
  TakesNext (Take k l) = slice_get (offered k) (length (traffic_at state k).taken) ≡ Some l
  TakesNext step = Unit {0}

  put_grows : (k j : ℕ) (l : Letter) → k < length state.traffic → Grows (offered j) (traffic_at state j) (traffic_at (with_put k l state) j)
  put_grows k j l within = grows_at offered state.traffic k j _ within (record { more = l ∷ []; puts = refl; takes = inl refl })

  step_grows : (step : Step) → TakesNext step → may plan s state step ≡ true → (j : ℕ) → Grows (offered j) (traffic_at state j) (traffic_at (after plan s state step) j)
  step_grows (Take k l) next h j = grows_at offered state.traffic k j _ (ltb-true _ _ (and_parts _ _ h).0)
      (record { more = []; puts = sym (append-nil (traffic_at state k).put); takes = inr (l, next, refl) })
  step_grows step next h j = by_moves plan s state (λ new. Grows (offered j) (traffic_at state j) (traffic_at new j)) (step_shape step) (after plan s state step) (moved plan s state step)
      (λ k l is. put_grows k j l (subst (IsPlaceWithin (length state.traffic)) is (may_within plan s state step h)))
      (λ k l is. absurd cc)
      (λ same is. subst (λ (t : List Traffic). Grows (offered j) (traffic_at state j) (get_or t j no_traffic)) (sym same) (Grows-same (offered j) (traffic_at state j)))

-- ---- prefixes

prefix_longer : (taken put new more : List Letter) → IsPrefix taken put → new ≡ put ++ more → IsPrefix taken new
prefix_longer taken put new more h is = (h.0 ++ more, sym (append_assoc taken h.0 more) ∙ ap (λ (l : List Letter). l ++ more) h.1 ∙ sym is)

pub next_of : (taken rest : List Letter) (l : Letter) → slice_get (taken ++ rest) (length taken) ≡ Some l → (after : List Letter) × (rest ≡ l ∷ after)
next_of [] [] l h = absurd cc
next_of [] (x ∷ rest) l h = (rest, cc)
next_of (x ∷ taken) rest l h = next_of taken rest l h

prefix_next : (taken put : List Letter) (l : Letter) → IsPrefix taken put → slice_get put (length taken) ≡ Some l → IsPrefix (taken ++ l ∷ []) put
prefix_next taken put l h is =
    let w = next_of taken h.0 l (ap (λ (x : List Letter). slice_get x (length taken)) h.1 ∙ is) in
    (w.0, append_assoc taken (l ∷ []) w.0 ∙ ap (λ (x : List Letter). taken ++ x) (sym w.1) ∙ h.1)

prefix_takes : (taken put new : List Letter) → IsPrefix taken put → ((new ≡ taken) ⊎ ((l : Letter) × (slice_get put (length taken) ≡ Some l) × (new ≡ taken ++ l ∷ []))) → IsPrefix new put
prefix_takes taken put new h (inl same) = subst (λ (x : List Letter). IsPrefix x put) (sym same) h
prefix_takes taken put new h (inr w) = subst (λ (x : List Letter). IsPrefix x put) (sym w.2) (prefix_next taken put w.0 h w.1)

-- ---- the world

pub record WorldKeeps (plan : SeenPlan) (world : WorldState) : Type 0 where
  pub sites : length world ≡ site_count plan
  pub keeps : (s : ℕ) → s < site_count plan → KeepsStreams plan s (state_of world s)
  pub links : LinksAreOrdered plan world

-- the other end of a place is not the site itself
pub neighbour_differs : (plan : SeenPlan) (s i : ℕ) → IsPlaced plan s i → neighbour_at plan s i ≡ s → ⊥
neighbour_differs plan s i is_placed same = elim is_placed.sides [
  | inl w ↦ omega (arith, is_placed.ordered, w.0, w.1)
  | inr w ↦ omega (arith, is_placed.ordered, w.0, w.1)
]

module _ (plan : SeenPlan) (is_plan : IsPlan plan) (world : WorldState) (kept : WorldKeeps plan world) (s : ℕ) (is_site : s < site_count plan) where
  -- the letters that lie in the links to the site
  abbrev offered : ℕ → List Letter
  offered i = put_to plan world s i

  -- a letter in a link to the site is a real one
  pub offer_is_proper : (i : ℕ) (l : Letter) → i < length (edges_of plan s) → next_letter plan world s i ≡ Some l → IsProper (Take i l)
  offer_is_proper i l within next =
      let over = across plan s i is_plan within in
      let there = kept.keeps (neighbour_at plan s i) over.is_site in
      let place : ℕ = place_of plan (neighbour_at plan s i) (edge_at plan s i) in
      let is_place : place < length (state_of world (neighbour_at plan s i)).traffic = omega (arith, over.within, there.every_place) in
      is_proper-of plan (edge_at plan (neighbour_at plan s i) place) (put_to plan world s i)
      (there.places place is_place).put_forks (length (traffic_at (state_of world s) i).taken) i l next

  long : (i : ℕ) → i < length (state_of world s).traffic → i < length (edges_of plan s)
  long i h = omega (arith, (kept.keeps s is_site).every_place)

  -- a step that takes no letter asks for none
  takes_none : (step : Step) → ((i : ℕ) → step_shape step ≡ Takes i → ⊥) → IsProper step × TakesNext plan s (state_of world s) offered step
  takes_none (Take i l) none = absurd (none i refl)
  takes_none step none = (tt, tt)

  kind_is : (kind : EventKind) (step : Step) → step_of plan world s kind ≡ Some step → may plan s (state_of world s) step ≡ true → IsProper step × TakesNext plan s (state_of world s) offered step
  kind_is (event.Take i) step h may_be =
      let w = option_map_parts (Take i) (next_letter plan world s i) step h in
      let may_take : may plan s (state_of world s) (Take i w.0) ≡ true = subst (λ (x : Step). may plan s (state_of world s) x ≡ true) (sym w.2) may_be in
      let within : i < length (state_of world s).traffic = ltb-true _ _ (and_parts _ _ may_take).0 in
      subst (λ (x : Step). IsProper x × TakesNext plan s (state_of world s) offered x) w.2 (offer_is_proper i w.0 (long i within) w.1, w.1)
  kind_is kind step h may_be = takes_none step (λ i is. let shape = shape_is (meal_fails plan s (state_of world s)) (next_letter plan world s) kind step h in cc)

  -- the site's state and its lists after the step
  module _ (step : Step) (is_proper : IsProper step) (next : TakesNext plan s (state_of world s) offered step) (needs : may plan s (state_of world s) step ≡ true) where
    abbrev new_world : WorldState
    new_world = slice_set world s (after plan s (state_of world s) step)

    here : state_of new_world s ≡ after plan s (state_of world s) step
    here = get_or-set_same world s (after plan s (state_of world s) step) no_state (omega (arith, kept.sites))

    elsewhere : (t : ℕ) → t ≢ s → state_of new_world t ≡ state_of world t
    elsewhere t other = get_or-set_other world s t (after plan s (state_of world s) step) no_state other

    grows_here : (j : ℕ) → Grows (offered j) (traffic_at (state_of world s) j) (traffic_at (state_of new_world s) j)
    grows_here j = subst (λ (x : LocalState). Grows (offered j) (traffic_at (state_of world s) j) (traffic_at x j)) (sym here) (step_grows plan s (state_of world s) offered step next needs j)

    new_keeps : (t : ℕ) → t < site_count plan → KeepsStreams plan t (state_of new_world t)
    new_keeps t is_t = elim (cases_eq t s) [
      | inl same ↦ subst (λ (x : ℕ). KeepsStreams plan x (state_of new_world x)) (sym same) (subst (KeepsStreams plan s) (sym here)
          (step_keeps plan s is_plan is_site (state_of world s) (after plan s (state_of world s) step) step (kept.keeps s is_site) is_proper (record { needs = needs; changes = refl })))
      | inr other ↦ subst (KeepsStreams plan t) (sym (elsewhere t other)) (kept.keeps t is_t)
    ]

    -- a place of the site: what was put there stays, and what was taken grows by the next letter
    links_here : (j : ℕ) → j < length (edges_of plan s) → IsPrefix (traffic_at (state_of new_world s) j).taken (put_to plan new_world s j)
    links_here j within =
        let other : neighbour_at plan s j ≢ s = neighbour_differs plan s j (placed plan s j is_plan within) in
        subst (λ (x : LocalState). IsPrefix (traffic_at (state_of new_world s) j).taken (traffic_at x (place_of plan (neighbour_at plan s j) (edge_at plan s j))).put) (sym (elsewhere (neighbour_at plan s j) other))
        (prefix_takes (traffic_at (state_of world s) j).taken (offered j) (traffic_at (state_of new_world s) j).taken (kept.links s j is_site within) (grows_here j).takes)

    -- a place of another site: what was taken stays, and what was put may grow
    links_there : (t j : ℕ) → t < site_count plan → j < length (edges_of plan t) → t ≢ s → IsPrefix (traffic_at (state_of new_world t) j).taken (put_to plan new_world t j)
    links_there t j is_t within other =
        let place : ℕ = place_of plan (neighbour_at plan t j) (edge_at plan t j) in
        let before : IsPrefix (traffic_at (state_of world t) j).taken (traffic_at (state_of world (neighbour_at plan t j)) place).put = kept.links t j is_t within in
        subst (λ (x : LocalState). IsPrefix (traffic_at x j).taken (traffic_at (state_of new_world (neighbour_at plan t j)) place).put) (sym (elsewhere t other))
        (elim (cases_eq (neighbour_at plan t j) s) [
          | inl same ↦
              let is_before : IsPrefix (traffic_at (state_of world t) j).taken (traffic_at (state_of world s) place).put = subst (λ (x : ℕ). IsPrefix (traffic_at (state_of world t) j).taken (traffic_at (state_of world x) place).put) same before in
              subst (λ (x : ℕ). IsPrefix (traffic_at (state_of world t) j).taken (traffic_at (state_of new_world x) place).put) (sym same)
              (prefix_longer (traffic_at (state_of world t) j).taken (traffic_at (state_of world s) place).put (traffic_at (state_of new_world s) place).put (grows_here place).more is_before (grows_here place).puts)
          | inr differs ↦ subst (λ (x : LocalState). IsPrefix (traffic_at (state_of world t) j).taken (traffic_at x place).put) (sym (elsewhere (neighbour_at plan t j) differs)) before
        ])

    new_kept : WorldKeeps plan new_world
    new_kept = record {
      sites = length-set world s (after plan s (state_of world s) step) ∙ kept.sites;
      keeps = new_keeps;
      links = λ t j is_t within. elim (cases_eq t s) [
        | inl same ↦ subst (λ (x : ℕ). j < length (edges_of plan x) → IsPrefix (traffic_at (state_of new_world x) j).taken (put_to plan new_world x j)) (sym same) (links_here j) within
        | inr other ↦ links_there t j is_t within other
      ];
    }

-- each event keeps the world
pub event_keeps : (plan : SeenPlan) (world new : WorldState) (e : Event) → IsPlan plan → WorldKeeps plan world → world_after plan world e ≡ Some new → WorldKeeps plan new
event_keeps plan world new e is_plan kept h =
    let w = event_is_step plan world e new h in
    let is = kind_is plan is_plan world kept e.site w.is_site e.kind w.step w.step_is w.needs in
    subst (WorldKeeps plan) (sym w.changes) (new_kept plan is_plan world kept e.site w.is_site w.step is.0 is.1 w.needs)

-- the start
pub start_state : (plan : SeenPlan) (s : ℕ) → s < site_count plan → state_of (start plan) s ≡ start_of plan s
start_state plan s h = at 0 (site_count plan) s h ∙ ap (start_of plan) (zero-add s) where
  at : (a n i : ℕ) → i < n → get_or (map (start_of plan) (range_with_len a n)) i no_state ≡ start_of plan (a + i)
  at a zero i l = absurd (omega arith)
  at a (suc n) zero l = ap (start_of plan) (sym (add-zero a))
  at a (suc n) (suc i) l =
      let same : a + 1 + i ≡ a + suc i = omega arith in
      at (a + 1) n i (omega arith) ∙ ap (start_of plan) same

pub start_kept : (plan : SeenPlan) → IsPlan plan → WorldKeeps plan (start plan)
start_kept plan is_plan = record {
  sites = length-map (range_with_len 0 (site_count plan)) (start_of plan) ∙ length-range_with_len 0 (site_count plan);
  keeps = λ s is_site. subst (KeepsStreams plan s) (sym (start_state plan s is_site)) (start_keeps plan s is_plan is_site);
  links = λ s i is_site within. subst (λ (x : LocalState). IsPrefix (traffic_at x i).taken (put_to plan (start plan) s i)) (sym (start_state plan s is_site))
      (subst (λ (x : Traffic). IsPrefix x.taken (put_to plan (start plan) s i)) (sym (no_traffic_yet (edges_of plan s) i)) (put_to plan (start plan) s i, refl));
}

-- what events lead to from a world that is kept is kept
pub events_keep : (plan : SeenPlan) (world new : WorldState) (events : List Event) → IsPlan plan → WorldKeeps plan world → after_events plan world events ≡ Some new → WorldKeeps plan new
events_keep plan world new [] is_plan kept h = subst (WorldKeeps plan) (same_Some world new h) kept
events_keep plan world new (e ∷ events) is_plan kept h =
    let w = and_then_parts (λ next. after_events plan next events) (world_after plan world e) new h in
    events_keep plan w.0 new events is_plan (event_keeps plan world w.0 e is_plan kept w.1) w.2

pub reached_kept : (plan : SeenPlan) (events : List Event) (world : WorldState) → IsPlan plan → Reaches plan events world → WorldKeeps plan world
reached_kept plan events world is_plan h = events_keep plan (start plan) world events is_plan (start_kept plan is_plan) h
