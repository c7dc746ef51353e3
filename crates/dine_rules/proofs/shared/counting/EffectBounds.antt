-- The effects of a world that events reach are within the bound of its plan.
use Rattle.std.proofs.Common.{◌≡◌, ℕ, ◌+◌, ◌*◌, ◌<◌, ◌≤◌, Bool, true, false, cond, List, length, get_or, sum_by, sym, ◌∙◌, ap, subst, inl, inr, arith, zero-add}
use Rattle.std.specs.List.{range_with_len}
use mathlib.Core.List.{IsPrefix}
use Rattle.std.proofs.lemmas.Bool.{cases_Bool, cond-true, cond-false}
use Rattle.std.proofs.lemmas.List.Sums.{sum-map, sum_by-le-sum_by}
use Rattle.std.proofs.lemmas.List.FromFn.{length-range_with_len, get_or-range_with_len}
use Rattle.dine_graph.specs.Plan.{SeenPlan, IsPlan, site_count, edge_count, job_count, edges_of, lo_of, hi_of, is_end}
use Rattle.dine_rules.specs.declared.letters.Letter.{Letter}
use Rattle.dine_rules.specs.declared.events.Event.{Event}
use Rattle.dine_rules.specs.Letters.{requests_in}
use Rattle.dine_rules.specs.Local.{LocalState, no_traffic, traffic_at, edge_at, neighbour_at, is_hungry}
use Rattle.dine_rules.specs.Streams.{KeepsStreams}
use Rattle.dine_rules.specs.World.{WorldState, no_state, state_of, place_of, put_to, Reaches}
use Rattle.dine_rules.specs.Bound.{letters_at, site_effects, effects_of, meals_due, bound_of}
use Rattle.dine_rules.proofs.shared.lists.Counting.{requests_in-append}
use Rattle.dine_rules.proofs.one_site.PutBounds.{length-letters, requests_within, dones_within, closes_within}
use Rattle.dine_rules.proofs.shared.one_place.Placed.{IsPlaced, placed}
use Rattle.dine_rules.proofs.shared.links.Across.{across}
use Rattle.dine_rules.proofs.shared.lists.Sums.{sum-within, sum_by-add, sum_by-times, sum_by-swap, at_most_twice}
use Rattle.dine_rules.proofs.shared.links.WorldStreams.{WorldKeeps, prefix_short, reached_kept}
use Rattle.dine_rules.proofs.shared.counting.Effects.{events_counted}

-- a prefix has no more Requests
prefix_requests : (taken put : List Letter) → IsPrefix taken put → requests_in taken ≤ requests_in put
prefix_requests taken put h = omega (arith, requests_in-append taken h.0, ap requests_in h.1)

-- the meals due at a place are those of its two ends
due_at_place_is : (plan : SeenPlan) (s i : ℕ) → IsPlaced plan s i → meals_due plan (edge_at plan s i) ≡ job_count plan s + job_count plan (neighbour_at plan s i)
due_at_place_is plan s i is_placed = elim is_placed.sides [
  | inl w ↦ omega (arith, ap (λ (x : ℕ). job_count plan x) w.0, ap (λ (x : ℕ). job_count plan x) w.1)
  | inr w ↦ omega (arith, ap (λ (x : ℕ). job_count plan x) w.0, ap (λ (x : ℕ). job_count plan x) w.1)
]

-- the letters that can be put and taken at a place of the edge
abbrev pub most_letters : SeenPlan → ℕ → ℕ
most_letters plan edge = 2 * meals_due plan edge + 4

module _ (plan : SeenPlan) (is_plan : IsPlan plan) (world : WorldState) (kept : WorldKeeps plan world) (s : ℕ) (is_site : s < site_count plan) where
  -- the other end asks for no more Forks than it has meals, so no more Forks are put
  puts_at : (i : ℕ) → i < length (edges_of plan s) → length (traffic_at (state_of world s) i).put ≤ meals_due plan (edge_at plan s i) + 2
  puts_at i within =
      let here = kept.keeps s is_site in
      let is_place : i < length (state_of world s).traffic = omega (arith, here.every_place) in
      let over = across plan s i is_plan within in
      let there = kept.keeps (neighbour_at plan s i) over.is_site in
      let place : ℕ = place_of plan (neighbour_at plan s i) (edge_at plan s i) in
      let other_place : place < length (state_of world (neighbour_at plan s i)).traffic = omega (arith, over.within, there.every_place) in
      omega (
        arith,
        length-letters (traffic_at (state_of world s) i).put,
        requests_within plan s (state_of world s) i here is_place,
        (here.places i is_place).given_when_asked,
        prefix_requests (traffic_at (state_of world s) i).taken (put_to plan world s i) (kept.links s i is_site within),
        requests_within plan (neighbour_at plan s i) (state_of world (neighbour_at plan s i)) place there other_place,
        dones_within plan s (state_of world s) i (here.places i is_place),
        closes_within plan s (state_of world s) i (here.places i is_place),
        due_at_place_is plan s i (placed plan s i is_plan within),
      )

-- what is taken was put
letters_within : (plan : SeenPlan) → IsPlan plan → (world : WorldState) → WorldKeeps plan world → (s : ℕ) → s < site_count plan → (i : ℕ) → i < length (edges_of plan s)
    → letters_at (traffic_at (state_of world s) i) ≤ most_letters plan (edge_at plan s i)
letters_within plan is_plan world kept s is_site i within =
    let over = across plan s i is_plan within in
    let other : ℕ = neighbour_at plan s i in
    let place : ℕ = place_of plan other (edge_at plan s i) in
    omega (
      arith,
      puts_at plan is_plan world kept s is_site i within,
      prefix_short (traffic_at (state_of world s) i).taken (put_to plan world s i) (kept.links s i is_site within),
      puts_at plan is_plan world kept other over.is_site place over.within,
      ap (λ (x : ℕ). meals_due plan x) over.same_edge,
    )

at_most_one : (b : Bool) → cond {A = ℕ} b 1 0 ≤ 1
at_most_one true = omega arith
at_most_one false = omega arith

-- three effects a meal, and no more while a site is hungry for the next, or has quit and dropped it
meals_within : (plan : SeenPlan) (s : ℕ) (state : LocalState) → KeepsStreams plan s state → 3 * state.ate + cond {A = ℕ} (is_hungry state.phase) 1 0 + cond {A = ℕ} state.has_quit 1 0 ≤ 3 * job_count plan s
meals_within plan s state keeps = elim (cases_Bool (is_hungry state.phase)) [
  | inl hungry ↦ omega (arith, cond-true {A = ℕ} (is_hungry state.phase) 1 0 hungry, keeps.hungry_has_left hungry, at_most_one state.has_quit)
  | inr other ↦ elim (cases_Bool state.has_quit) [
    | inl quit ↦ omega (arith, cond-false {A = ℕ} (is_hungry state.phase) 1 0 other, cond-true {A = ℕ} state.has_quit 1 0 quit, (keeps.has_dropped quit).2)
    | inr stays ↦ omega (arith, cond-false {A = ℕ} (is_hungry state.phase) 1 0 other, cond-false {A = ℕ} state.has_quit 1 0 stays, keeps.ate_within)
  ]
]

-- the effects of a site are within its meals and the letters at its edges
abbrev pub most_effects : SeenPlan → ℕ → ℕ
most_effects plan s = 3 * job_count plan s + sum_by (most_letters plan) (edges_of plan s)

site_within : (plan : SeenPlan) → IsPlan plan → (world : WorldState) → WorldKeeps plan world → (s : ℕ) → s < site_count plan → site_effects (state_of world s) ≤ most_effects plan s
site_within plan is_plan world kept s is_site =
    let keeps = kept.keeps s is_site in
    let each : (i : ℕ) → i < length (state_of world s).traffic → letters_at (get_or (state_of world s).traffic i no_traffic) ≤ most_letters plan (get_or (edges_of plan s) i 0)
    = λ i h. letters_within plan is_plan world kept s is_site i (omega (arith, keeps.every_place)) in
    omega (
      arith,
      meals_within plan s (state_of world s) keeps,
      sum-within letters_at (most_letters plan) (state_of world s).traffic (edges_of plan s) no_traffic 0 keeps.every_place each,
      sum-map (most_letters plan) (edges_of plan s),
    )

-- each edge has two ends, so the letters at all places are within twice those at a place of each edge
places_within : (plan : SeenPlan) → sum_by (λ s. sum_by (most_letters plan) (edges_of plan s)) (range_with_len 0 (site_count plan)) ≤ sum_by (λ edge. 4 * meals_due plan edge + 8) (range_with_len 0 (edge_count plan))
places_within plan = omega (
  arith,
  sum_by-swap (most_letters plan) (is_end plan) (range_with_len 0 (site_count plan)) (range_with_len 0 (edge_count plan)),
  sum_by-le-sum_by (λ edge. sum_by (λ s. cond (is_end plan s edge) (most_letters plan edge) 0) (range_with_len 0 (site_count plan))) (λ edge. 4 * meals_due plan edge + 8) (range_with_len 0 (edge_count plan))
      (λ edge. omega (arith, at_most_twice (lo_of plan edge) (hi_of plan edge) (most_letters plan edge) 0 (site_count plan))),
)

-- the effects of all sites are within the bound
sites_within : (plan : SeenPlan) → sum_by (most_effects plan) (range_with_len 0 (site_count plan)) ≤ bound_of plan
sites_within plan = omega (
  arith,
  sum_by-add (λ s. 3 * job_count plan s) (λ s. sum_by (most_letters plan) (edges_of plan s)) (range_with_len 0 (site_count plan)),
  sum_by-times 3 (job_count plan) (range_with_len 0 (site_count plan)),
  sum-map (job_count plan) (range_with_len 0 (site_count plan)),
  places_within plan,
  sum-map (λ edge. 4 * meals_due plan edge + 8) (range_with_len 0 (edge_count plan)),
)

-- a world that keeps its streams and links is within the bound
pub effects_within : (plan : SeenPlan) (world : WorldState) → IsPlan plan → WorldKeeps plan world → effects_of world ≤ bound_of plan
effects_within plan world is_plan kept =
    let each : (s : ℕ) → s < length world → site_effects (get_or world s no_state) ≤ most_effects plan (get_or (range_with_len 0 (site_count plan)) s 0)
    = λ s h.
    let is_site : s < site_count plan = omega (arith, kept.sites) in
    subst (λ (x : ℕ). site_effects (state_of world s) ≤ most_effects plan x) (sym (get_or-range_with_len 0 (site_count plan) s 0 is_site ∙ zero-add s)) (site_within plan is_plan world kept s is_site) in
    omega (
      arith,
      sum-within site_effects (most_effects plan) world (range_with_len 0 (site_count plan)) no_state 0 (kept.sites ∙ sym (length-range_with_len 0 (site_count plan))) each,
      sum-map (most_effects plan) (range_with_len 0 (site_count plan)),
      sites_within plan,
    )

-- the same of a world that events reach, and so of the number of events
pub effects_bounded : (plan : SeenPlan) (events : List Event) (world : WorldState) → IsPlan plan → Reaches plan events world → effects_of world ≤ bound_of plan
effects_bounded plan events world is_plan h = effects_within plan world is_plan (reached_kept plan events world is_plan h)

pub events_bounded : (plan : SeenPlan) (events : List Event) (world : WorldState) → IsPlan plan → Reaches plan events world → length events ≤ bound_of plan
events_bounded plan events world is_plan h = omega (arith, events_counted plan events world is_plan h, effects_bounded plan events world is_plan h)
