-- Precedence is acyclic in each world that events reach: a list of all sites keeps the preferred end of each edge
-- first, and a site that begins a meal goes to the end of it.
use Rattle.std.proofs.Common.{◌≡◌, ◌≢◌, ℕ, ◌+◌, ◌<◌, Bool, true, false, cond, List, [], ◌∷◌, length, slice_set, Some, IsPermutation, sym, ◌∙◌, ap, subst, inl, inr, arith}
use Rattle.std.specs.List.{range_with_len}
use Rattle.std.proofs.lemmas.Bool.{cases_eq}
use Rattle.std.proofs.lemmas.List.{get_or-set_same, get_or-set_other}
use Rattle.std.proofs.lemmas.List.Sorted.{IsPermutation-trans}
use Rattle.std.proofs.lemmas.Option.{same_Some}
use Rattle.dine_graph.specs.Plan.{SeenPlan, IsPlan, site_count, edge_count, edges_of, lo_of, hi_of, other_of}
use Rattle.dine_rules.specs.declared.events.Event.{Event}
use Rattle.dine_rules.specs.Local.{LocalState, Traffic, traffic_at, start_of}
use Rattle.dine_rules.specs.Letters.{forks_in}
use Rattle.dine_rules.specs.Holdings.{hand, hand_at}
use Rattle.dine_rules.specs.Steps.{Step, Begin, after, may}
use Rattle.dine_rules.specs.World.{WorldState, no_state, state_of, start, world_after, after_events, Reaches}
use Rattle.dine_rules.specs.Precedence.{IsAcyclic, StandsBefore}
use Rattle.dine_token.specs.Log.{is_dirty}
use Rattle.dine_rules.proofs.one_site.Askers.{begin_or_not}
use Rattle.dine_rules.proofs.shared.one_site.Site.{no_traffic_yet}
use Rattle.dine_rules.proofs.shared.lists.Options.{and_then_parts}
use Rattle.dine_rules.proofs.shared.links.WorldStreams.{WorldKeeps, event_is_step, event_keeps, start_kept, start_state}
use Rattle.dine_rules.proofs.shared.precedence.Orders.{Before, before_to, in_order, moved_last, IsMovedLast, falling, falling_all, falling_before}
use Rattle.dine_rules.proofs.shared.precedence.Preference.{IsEdge, is_edge, IsBalanced, balanced, lower_first_at, low_place, high_place, preferred_is}
use Rattle.dine_rules.proofs.shared.precedence.PreferenceSteps.{Change, IsEaten, step_changes, begin_eats, low_changes, high_changes, low_eats, high_eats}

-- the lower end of an edge has precedence in the world
abbrev pub is_lower_first : SeenPlan → WorldState → ℕ → Bool
is_lower_first plan world e = lower_first_at plan e (state_of world (lo_of plan e)) (state_of world (hi_of plan e))

-- the order has all sites, and of each edge the preferred end first
pub record IsOrdered (plan : SeenPlan) (world : WorldState) (order : List ℕ) : Type 0 where
  pub all : IsPermutation order (range_with_len 0 (site_count plan))
  pub edges : (e : ℕ) → e < edge_count plan → Before (cond (is_lower_first plan world e) (lo_of plan e) (hi_of plan e)) (cond (is_lower_first plan world e) (hi_of plan e) (lo_of plan e)) order

-- such an order shows that precedence is acyclic
other_of_first : (plan : SeenPlan) (e : ℕ) → IsEdge plan e → (b : Bool) → other_of plan e (cond b (lo_of plan e) (hi_of plan e)) ≡ cond b (hi_of plan e) (lo_of plan e)
other_of_first plan e edge true = edge.from_low
other_of_first plan e edge false = edge.from_high

acyclic_by : (plan : SeenPlan) (world : WorldState) (order : List ℕ) → IsPlan plan → WorldKeeps plan world → IsOrdered plan world order → IsAcyclic plan world
acyclic_by plan world order is_plan kept ordered = record {
  order = order;
  each_once = ordered.all;
  preferred_first = λ e within.
      let first : Bool = is_lower_first plan world e in
      subst (λ (p : ℕ). StandsBefore p (other_of plan e p) order) (sym (preferred_is plan is_plan world kept e within))
      (subst (λ (o : ℕ). StandsBefore (cond first (lo_of plan e) (hi_of plan e)) o order) (sym (other_of_first plan e (is_edge plan e is_plan within) first))
      (before_to (cond first (lo_of plan e) (hi_of plan e)) (cond first (hi_of plan e) (lo_of plan e)) order (ordered.edges e within)));
}

-- ---- a step

module _ (plan : SeenPlan) (is_plan : IsPlan plan) (world new : WorldState) (kept : WorldKeeps plan world) (new_kept : WorldKeeps plan new)
    (s : ℕ) (is_site : s < site_count plan) (step : Step) (needs : may plan s (state_of world s) step ≡ true)
    (changes : new ≡ slice_set world s (after plan s (state_of world s) step)) where
  here : state_of new s ≡ after plan s (state_of world s) step
  here = ap (λ (w : WorldState). state_of w s) changes ∙ get_or-set_same world s (after plan s (state_of world s) step) no_state (omega (arith, kept.sites))

  elsewhere : (t : ℕ) → t ≢ s → state_of new t ≡ state_of world t
  elsewhere t other = ap (λ (w : WorldState). state_of w t) changes ∙ get_or-set_other world s t (after plan s (state_of world s) step) no_state other

  -- precedence stays at an edge of other sites
  first_elsewhere : (e : ℕ) → lo_of plan e ≢ s → hi_of plan e ≢ s → is_lower_first plan new e ≡ is_lower_first plan world e
  first_elsewhere e not_low not_high = ap (λ (x : LocalState). lower_first_at plan e x (state_of new (hi_of plan e))) (elsewhere (lo_of plan e) not_low)
      ∙ ap (λ (x : LocalState). lower_first_at plan e (state_of world (lo_of plan e)) x) (elsewhere (hi_of plan e) not_high)

  -- a step that is no Begin leaves precedence as it was
  module _ (no_begin : step ≢ Begin) where
    change_at : (i : ℕ) → Change plan s i (state_of world s) (state_of new s)
    change_at i = subst (Change plan s i (state_of world s)) (sym here) (step_changes plan s i (state_of world s) step no_begin needs)

    first_low : (e : ℕ) → e < edge_count plan → lo_of plan e ≡ s → hi_of plan e ≢ s → is_lower_first plan new e ≡ is_lower_first plan world e
    first_low e within same other =
        let low : ℕ = lo_of plan e in
        let stays : state_of new (hi_of plan e) ≡ state_of world (hi_of plan e) = elsewhere (hi_of plan e) other in
        ap (λ (x : LocalState). lower_first_at plan e (state_of new low) x) stays
        ∙ low_changes plan e (state_of world low) (state_of new low) (state_of world (hi_of plan e)) (balanced plan is_plan world kept e within)
        (subst (IsBalanced plan e (state_of new low)) stays (balanced plan is_plan new new_kept e within))
        (subst (λ (t : ℕ). Change plan t (low_place plan e) (state_of world t) (state_of new t)) (sym same) (change_at (low_place plan e)))

    first_high : (e : ℕ) → e < edge_count plan → lo_of plan e ≢ s → hi_of plan e ≡ s → is_lower_first plan new e ≡ is_lower_first plan world e
    first_high e within other same =
        let high : ℕ = hi_of plan e in
        let stays : state_of new (lo_of plan e) ≡ state_of world (lo_of plan e) = elsewhere (lo_of plan e) other in
        ap (λ (x : LocalState). lower_first_at plan e x (state_of new high)) stays
        ∙ high_changes plan e (state_of world (lo_of plan e)) (state_of world high) (state_of new high) (balanced plan is_plan world kept e within)
        (subst (λ (x : LocalState). IsBalanced plan e x (state_of new high)) stays (balanced plan is_plan new new_kept e within))
        (subst (λ (t : ℕ). Change plan t (high_place plan e) (state_of world t) (state_of new t)) (sym same) (change_at (high_place plan e)))

    first_stays : (e : ℕ) → e < edge_count plan → is_lower_first plan new e ≡ is_lower_first plan world e
    first_stays e within =
        let ends = is_plan.ordered e within in
        elim (cases_eq (lo_of plan e) s) [
          | inl low ↦ first_low e within low (λ high. omega arith)
          | inr not_low ↦ elim (cases_eq (hi_of plan e) s) [
            | inl high ↦ first_high e within not_low high
            | inr not_high ↦ first_elsewhere e not_low not_high
          ]
        ]

    order_stays : (order : List ℕ) → IsOrdered plan world order → IsOrdered plan new order
    order_stays order ordered = record {
      all = ordered.all;
      edges = λ e within. subst (λ (b : Bool). Before (cond b (lo_of plan e) (hi_of plan e)) (cond b (hi_of plan e) (lo_of plan e)) order) (sym (first_stays e within)) (ordered.edges e within);
    }

  -- a meal puts the site last
  module _ (begins : step ≡ Begin) where
    eaten_at : (i : ℕ) → i < length (edges_of plan s) → IsEaten plan s i (state_of new s)
    eaten_at i within = subst (IsEaten plan s i) (sym here) (subst (λ (x : Step). IsEaten plan s i (after plan s (state_of world s) x)) (sym begins)
        (begin_eats plan s i (state_of world s) (kept.keeps s is_site) (omega (arith, (kept.keeps s is_site).every_place)) (subst (λ (x : Step). may plan s (state_of world s) x ≡ true) begins needs)))

    low_last : (e : ℕ) → e < edge_count plan → lo_of plan e ≡ s → is_lower_first plan new e ≡ false
    low_last e within same =
        let at : low_place plan e < length (edges_of plan s) = subst (λ (t : ℕ). low_place plan e < length (edges_of plan t)) same (is_edge plan e is_plan within).low_within in
        low_eats plan e (state_of new (lo_of plan e)) (state_of new (hi_of plan e))
        (subst (λ (t : ℕ). IsEaten plan t (low_place plan e) (state_of new t)) (sym same) (eaten_at (low_place plan e) at))

    high_last : (e : ℕ) → e < edge_count plan → hi_of plan e ≡ s → is_lower_first plan new e ≡ true
    high_last e within same =
        let at : high_place plan e < length (edges_of plan s) = subst (λ (t : ℕ). high_place plan e < length (edges_of plan t)) same (is_edge plan e is_plan within).high_within in
        high_eats plan e (state_of new (lo_of plan e)) (state_of new (hi_of plan e)) (balanced plan is_plan new new_kept e within)
        (subst (λ (t : ℕ). IsEaten plan t (high_place plan e) (state_of new t)) (sym same) (eaten_at (high_place plan e) at))

    neither : (b : Bool) (low high : ℕ) → low ≢ s → high ≢ s → cond b low high ≢ s
    neither true low high not_low not_high = not_low
    neither false low high not_low not_high = not_high

    module _ (order next : List ℕ) (ordered : IsOrdered plan world order) (moved : IsMovedLast s order next) where
      edge_moved : (e : ℕ) → e < edge_count plan → Before (cond (is_lower_first plan new e) (lo_of plan e) (hi_of plan e)) (cond (is_lower_first plan new e) (hi_of plan e) (lo_of plan e)) next
      edge_moved e within =
          let low : ℕ = lo_of plan e in
          let high : ℕ = hi_of plan e in
          let edge = is_edge plan e is_plan within in
          let ends : low < high = edge.ordered in
          let at : Bool → Type 0 = λ b. Before (cond b low high) (cond b high low) next in
          elim (cases_eq low s) [
            | inl same ↦ subst at (sym (low_last e within same)) (subst (λ (x : ℕ). Before high x next) (sym same)
                (moved.last high (λ high_same. omega arith) (in_order (site_count plan) high order ordered.all edge.high_site)))
            | inr not_low ↦ elim (cases_eq high s) [
              | inl same ↦ subst at (sym (high_last e within same)) (subst (λ (x : ℕ). Before low x next) (sym same)
                  (moved.last low not_low (in_order (site_count plan) low order ordered.all edge.low_site)))
              | inr not_high ↦ subst at (sym (first_elsewhere e not_low not_high))
                  (moved.others (cond (is_lower_first plan world e) low high) (cond (is_lower_first plan world e) high low)
                  (neither (is_lower_first plan world e) low high not_low not_high) (neither (is_lower_first plan world e) high low not_high not_low) (ordered.edges e within))
            ]
          ]

      order_moved : IsOrdered plan new next
      order_moved = record {
        all = IsPermutation-trans next order (range_with_len 0 (site_count plan)) moved.same ordered.all;
        edges = edge_moved;
      }

  -- each step leads from an order to an order
  order_after : (order : List ℕ) → IsOrdered plan world order → (next : List ℕ) × IsOrdered plan new next
  order_after order ordered = elim (begin_or_not step) [
    | inl begins ↦
        let moved = moved_last s order (in_order (site_count plan) s order ordered.all is_site) in
        (moved.0, order_moved begins order moved.0 ordered moved.1)
    | inr no_begin ↦ (order, order_stays no_begin.0 order ordered)
  ]

-- ---- the start, and all events

-- at the start the lower end of each edge has the fork, dirty
start_first : (plan : SeenPlan) → IsPlan plan → (e : ℕ) → e < edge_count plan → is_lower_first plan (start plan) e ≡ false
start_first plan is_plan e within =
    let edge = is_edge plan e is_plan within in
    let low : ℕ = lo_of plan e in
    let b = balanced plan is_plan (start plan) (start_kept plan is_plan) e within in
    let state : state_of (start plan) low ≡ start_of plan low = start_state plan low edge.low_site in
    let none : (t : LocalState) → t ≡ start_of plan low → forks_in (traffic_at t (low_place plan e)).put + forks_in (traffic_at t (low_place plan e)).taken ≡ 0
    = λ t same. ap (λ (x : LocalState). forks_in (traffic_at x (low_place plan e)).put + forks_in (traffic_at x (low_place plan e)).taken) same
    ∙ ap (λ (x : Traffic). forks_in x.put + forks_in x.taken) (no_traffic_yet (edges_of plan low) (low_place plan e)) in
    low_eats plan e (state_of (start plan) low) (state_of (start plan) (hi_of plan e)) (record {
      held = omega (arith, b.low_counted, none (state_of (start plan) low) state);
      dirty = ap (λ (x : LocalState). is_dirty (hand_at low x (low_place plan e))) state ∙ ap (λ (x : Traffic). is_dirty (hand low 0 x)) (no_traffic_yet (edges_of plan low) (low_place plan e));
    })

start_ordered : (plan : SeenPlan) → IsPlan plan → IsOrdered plan (start plan) (falling (site_count plan))
start_ordered plan is_plan = record {
  all = falling_all (site_count plan);
  edges = λ e within. subst (λ (b : Bool). Before (cond b (lo_of plan e) (hi_of plan e)) (cond b (hi_of plan e) (lo_of plan e)) (falling (site_count plan))) (sym (start_first plan is_plan e within))
      (falling_before (site_count plan) (lo_of plan e) (hi_of plan e) (is_plan.ordered e within) (is_plan.within e within));
}

-- an order goes along with the events
events_ordered : (plan : SeenPlan) (world new : WorldState) (events : List Event) (order : List ℕ) → IsPlan plan → WorldKeeps plan world → IsOrdered plan world order → after_events plan world events ≡ Some new → IsAcyclic plan new
events_ordered plan world new [] order is_plan kept ordered h = subst (IsAcyclic plan) (same_Some world new h) (acyclic_by plan world order is_plan kept ordered)
events_ordered plan world new (e ∷ events) order is_plan kept ordered h =
    let w = and_then_parts (λ next. after_events plan next events) (world_after plan world e) new h in
    let step = event_is_step plan world e w.0 w.1 in
    let next_kept = event_keeps plan world w.0 e is_plan kept w.1 in
    let next = order_after plan is_plan world w.0 kept next_kept e.site step.is_site step.step step.needs step.changes order ordered in
    events_ordered plan w.0 new events next.0 is_plan next_kept next.1 w.2

-- precedence is acyclic in each world that events reach from the start
pub precedence_acyclic : (plan : SeenPlan) (events : List Event) (world : WorldState) → IsPlan plan → Reaches plan events world → IsAcyclic plan world
precedence_acyclic plan events world is_plan h = events_ordered plan (start plan) world events (falling (site_count plan)) is_plan (start_kept plan is_plan) (start_ordered plan is_plan) h
