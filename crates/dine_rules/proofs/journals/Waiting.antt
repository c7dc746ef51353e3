-- An event that is not enabled waits for its own site, or for a letter to it.
use Rattle.std.proofs.Common.{◌≡◌, ◌≢◌, ◌&&◌, if◌then◌else◌, ℕ, ◌<◌, ◌≤◌, nat_lt, Bool, true, false, List, length, get_or, slice_get, slice_set, Option, Some, None, is_some, refl, sym, ◌∙◌, ap, subst, inl, inr, arith}
use Rattle.std.specs.Option.{option_and_then, option_map}
use Rattle.std.proofs.lemmas.Bool.{cases_lt, cases_eq, le-ltb}
use Rattle.std.proofs.lemmas.List.{get_or-set_same}
use Rattle.dine_graph.specs.Plan.{SeenPlan, IsPlan, edges_of, site_count}
use Rattle.dine_rules.specs.declared.letters.Letter.{Letter}
use Rattle.dine_rules.specs.declared.events.Event.{Event}
use Rattle.dine_rules.specs.declared.events.EventKind.{EventKind}
use Rattle.dine_rules.specs.declared.events.EventKind.TheVariants as event
use Rattle.dine_rules.specs.Local.{LocalState, Traffic, edge_at, meal_fails, neighbour_at, no_traffic, traffic_at}
use Rattle.dine_rules.specs.Breach.{is_allowed}
use Rattle.dine_rules.specs.declared.events.Shape.TheVariants.{Puts}
use Rattle.dine_rules.specs.Steps.{End, Step, Take, after, shape_of}
use Rattle.dine_rules.specs.World.{Reaches, WorldState, is_enabled, local_after, next_letter, no_state, place_of, put_to, site_after, state_of, step_of, world_after}
use Rattle.dine_rules.proofs.shared.links.Across.{across}
use Rattle.dine_rules.proofs.shared.counting.Persistence.{set_cases, state_stays}
use Rattle.dine_rules.proofs.shared.one_site.Shapes.{by_moves, moved, shape_is, step_shape}
use Rattle.dine_rules.proofs.shared.links.WorldStreams.{IsStepOf, WorldKeeps, event_is_step, reached_kept}

-- at a place where it puts no letter, a step leaves what was put
puts_elsewhere : (plan : SeenPlan) (s : ℕ) (state : LocalState) (step : Step) (j : ℕ) → step_shape step ≢ Puts j → (traffic_at (after plan s state step) j).put ≡ (traffic_at state j).put
puts_elsewhere plan s state step j other = by_moves plan s state (λ new. (traffic_at new j).put ≡ (traffic_at state j).put) (step_shape step) (after plan s state step) (moved plan s state step)
    (λ i l is. elim (set_cases state.traffic i j _ no_traffic) [
      | inl same ↦ ap (λ (x : Traffic). x.put) same
      | inr w ↦ absurd (other (is ∙ ap Puts (sym w.0)))
    ])
    (λ i l is. elim (set_cases state.traffic i j _ no_traffic) [
      | inl same ↦ ap (λ (x : Traffic). x.put) same
      | inr w ↦ ap (λ (x : Traffic). x.put) w.1 ∙ ap (λ (x : ℕ). (traffic_at state x).put) (sym w.0)
    ])
    (λ same is. ap (λ (x : List Traffic). (get_or x j no_traffic).put) same)

-- whether an event is enabled is whether its site is there and has a state after it
enabled_where : (plan : SeenPlan) (one two : WorldState) (s : ℕ) (kind : EventKind) → is_some (site_after plan one s kind) ≡ is_some (site_after plan two s kind)
    → is_enabled plan one (record { site = s; kind = kind }) ≡ is_enabled plan two (record { site = s; kind = kind })
enabled_where plan one two s kind h = by_test (nat_lt s (site_count plan)) (site_after plan one s kind) (site_after plan two s kind) h where
  some_mapped : {A B : Type 0} (f : A → B) (o : Option A) → is_some (option_map f o) ≡ is_some o
  some_mapped f None = refl
  some_mapped f (Some x) = refl

  by_test : (b : Bool) (o p : Option LocalState) → is_some o ≡ is_some p → is_some (if b then option_map (slice_set one s) o else None) ≡ is_some (if b then option_map (slice_set two s) p else None)
  by_test true o p same = some_mapped (slice_set one s) o ∙ same ∙ sym (some_mapped (slice_set two s) p)
  by_test false o p same = refl

-- a Take at no place of the site is not enabled
no_take : (plan : SeenPlan) (world : WorldState) (s i : ℕ) → length (state_of world s).traffic ≤ i → is_some (site_after plan world s (event.Take i)) ≡ false
no_take plan world s i past = by_letter (next_letter plan world s i) where
  by_letter : (next : Option Letter) → is_some (option_and_then (local_after plan s (state_of world s)) (option_map (Take i) next)) ≡ false
  by_letter None = refl
  by_letter (Some l) = ap (λ (b : Bool). is_some (if b && is_allowed plan s (state_of world s) i l then Some (after plan s (state_of world s) (Take i l)) else None)) (le-ltb i (length (state_of world s).traffic) past)

module _ (plan : SeenPlan) (is_plan : IsPlan plan) (world new : WorldState) (kept : WorldKeeps plan world) (other : Event) (h : world_after plan world other ≡ Some new) (s : ℕ) (differs : s ≢ other.site)
    (no_letter : (i : ℕ) → shape_of other.kind ≡ Puts i → neighbour_at plan other.site i ≢ s) where
  one : IsStepOf plan world other new
  one = event_is_step plan world other new h

  stays : state_of new s ≡ state_of world s
  stays = ap (λ (x : WorldState). state_of x s) one.changes ∙ state_stays plan world other.site one.step s differs

  same_put : (i : ℕ) → i < length (edges_of plan s) → put_to plan new s i ≡ put_to plan world s i
  same_put i within =
      let over = across plan s i is_plan within in
      let there : ℕ = neighbour_at plan s i in
      let place : ℕ = place_of plan there (edge_at plan s i) in
      elim (cases_eq there other.site) [
        | inl same ↦
            let shape : step_shape one.step ≢ Puts place = λ is. no_letter place (sym (shape_is (meal_fails plan other.site (state_of world other.site)) (next_letter plan world other.site) other.kind one.step one.step_is) ∙ is)
            (ap (λ (x : ℕ). neighbour_at plan x place) (sym same) ∙ over.back) in
            let after_step : state_of new other.site ≡ after plan other.site (state_of world other.site) one.step = ap (λ (x : WorldState). state_of x other.site) one.changes
            ∙ get_or-set_same world other.site _ no_state (let n = kept.sites in let m = one.is_site in omega arith) in
            ap (λ (x : ℕ). (traffic_at (state_of new x) place).put) same
            ∙ ap (λ (x : LocalState). (traffic_at x place).put) after_step
            ∙ puts_elsewhere plan other.site (state_of world other.site) one.step place shape
            ∙ ap (λ (x : ℕ). (traffic_at (state_of world x) place).put) (sym same)
        | inr apart ↦ ap (λ (x : LocalState). (traffic_at x place).put) (ap (λ (x : WorldState). state_of x there) one.changes ∙ state_stays plan world other.site one.step there apart)
      ]

  -- the site has a state after the event exactly where it had
  same_after : (is_site : s < site_count plan) (kind : EventKind) → is_some (site_after plan new s kind) ≡ is_some (site_after plan world s kind)
  same_after is_site (event.Take i) = elim (cases_lt i (length (edges_of plan s))) [
    | inl within ↦ ap (λ (x : LocalState). is_some (option_and_then (local_after plan s x) (option_map (Take i) (slice_get (put_to plan new s i) (length (traffic_at x i).taken))))) stays
        ∙ ap (λ (x : List Letter). is_some (option_and_then (local_after plan s (state_of world s)) (option_map (Take i) (slice_get x (length (traffic_at (state_of world s) i).taken))))) (same_put i within)
    | inr past ↦
        let few : length (state_of world s).traffic ≤ i = let e = (kept.keeps s is_site).every_place in omega arith in
        no_take plan new s i (subst (λ (x : LocalState). length x.traffic ≤ i) (sym stays) few) ∙ sym (no_take plan world s i few)
  ]
  same_after is_site event.End = ap (λ (x : LocalState). is_some (local_after plan s x (End (meal_fails plan s x)))) stays
  same_after is_site kind = ap (λ (x : LocalState). is_some (option_and_then (local_after plan s x) (step_of plan new s kind))) stays

-- An event of a site that did not act and got no letter is enabled exactly where it was.
pub waits : (plan : SeenPlan) (events : List Event) (world new : WorldState) (e other : Event) → IsPlan plan → Reaches plan events world → world_after plan world other ≡ Some new → e.site ≢ other.site
    → ((i : ℕ) → shape_of other.kind ≡ Puts i → neighbour_at plan other.site i ≢ e.site) → is_enabled plan new e ≡ is_enabled plan world e
waits plan events world new e other is_plan reached h differs no_letter = elim (cases_lt e.site (site_count plan)) [
  | inl is_site ↦ enabled_where plan new world e.site e.kind (same_after plan is_plan world new (reached_kept plan events world is_plan reached) other h e.site differs no_letter is_site e.kind)
  | inr past ↦ ap (λ (b : Bool). is_some (if b then option_map (slice_set new e.site) (site_after plan new e.site e.kind) else None)) (le-ltb e.site (site_count plan) past)
      ∙ sym (ap (λ (b : Bool). is_some (if b then option_map (slice_set world e.site) (site_after plan world e.site e.kind) else None)) (le-ltb e.site (site_count plan) past))
]
