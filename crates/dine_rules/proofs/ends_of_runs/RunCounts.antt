-- How many events a run has: as many as the list that leads to its end, so at most the bound, which is small.
use Rattle.std.proofs.Common.{◌≡◌, ℕ, zero, suc, ◌+◌, ◌*◌, ◌<◌, ◌≤◌, List, [], ◌∷◌, ◌++◌, length, map, sum, slice_get, Option, Some, None, unwrap_or, refl, sym, ◌∙◌, ap, subst, arith, length-append, zero-add}
use Rattle.std.specs.List.{range_with_len}
use Rattle.std.proofs.lemmas.List.Elements.{All-from_get_or}
use Rattle.std.proofs.lemmas.List.FromFn.{get_or-range_with_len, length-range_with_len}
use Rattle.std.proofs.lemmas.List.Sums.{sum-map, sum_by-le}
use Rattle.dine_graph.specs.declared.limits.TheConstants.{MAX_EDGES, MAX_SITES}
use Rattle.dine_token.specs.declared.limits.TheConstants.{MAX_JOBS}
use Rattle.dine_graph.specs.Plan.{SeenPlan, IsPlan, site_count, edge_count, job_count, lo_of, hi_of}
use Rattle.dine_rules.specs.declared.events.Event.{Event}
use Rattle.dine_rules.specs.World.{WorldState, start, world_after, enabled_events, Reaches}
use Rattle.dine_rules.specs.Bound.{bound_of, effects_of, meals_due}
use Rattle.dine_rules.specs.Schedules.{Counted, run_after, run_after_choice, replay, rest_after, finish_within, from_here, whole_run, after_choices}
use Rattle.dine_rules.proofs.shared.counting.Effects.{events_counted}
use Rattle.dine_rules.proofs.shared.counting.EffectBounds.{events_bounded}
use Rattle.dine_rules.proofs.shared.ends_of_runs.Finishing.{choice_leads}

-- ---- a run counts its events

-- some events lead to the world of the run, as many as it counts
pub record IsCountedRun (plan : SeenPlan) (now : Counted) : Type 0 where
  pub events : List Event
  pub reaches : Reaches plan events now.world
  pub count : length events ≡ now.events

choice_counts : (plan : SeenPlan) (now : Counted) (k : ℕ) (o : Option Event) → IsCountedRun plan now → slice_get (enabled_events plan now.world) k ≡ o → IsCountedRun plan (run_after plan now o)
choice_counts plan now k None run is = run
choice_counts plan now k (Some e) run is =
    let w = choice_leads plan now run.events k e run.reaches is in
    record { events = run.events ++ w.event ∷ []; reaches = w.reaches; count = omega (arith, length-append run.events (w.event ∷ []), run.count) }

replay_counts : (plan : SeenPlan) (now : Counted) (choices : List ℕ) → IsCountedRun plan now → IsCountedRun plan (replay plan now choices)
replay_counts plan now [] run = run
replay_counts plan now (k ∷ choices) run = replay_counts plan (run_after_choice plan now k) choices (choice_counts plan now k (slice_get (enabled_events plan now.world) k) run refl)

-- with an enabled event the rest of the run counts on from it
carried_counts : (plan : SeenPlan) (rest : Counted → Counted) (now : Counted) (o : Option Event) → IsCountedRun plan now → slice_get (enabled_events plan now.world) 0 ≡ o
    → ((next : Counted) → IsCountedRun plan next → IsCountedRun plan (rest next)) → IsCountedRun plan (rest_after rest plan now o)
carried_counts plan rest now None run is further = run
carried_counts plan rest now (Some e) run is further = further (run_after plan now (Some e)) (choice_counts plan now 0 (Some e) run is)

finish_counts : (plan : SeenPlan) (n : ℕ) (now : Counted) → IsCountedRun plan now → IsCountedRun plan (finish_within n plan now)
finish_counts plan zero now run = run
finish_counts plan (suc n) now run = carried_counts plan (finish_within n plan) now (slice_get (enabled_events plan now.world) 0) run refl (finish_counts plan n)

pub whole_run_counts : (plan : SeenPlan) (choices : List ℕ) → IsCountedRun plan (whole_run plan choices)
whole_run_counts plan choices =
    let begun : Counted = from_here (start plan) in
    finish_counts plan (bound_of plan) (replay plan begun choices) (replay_counts plan begun choices (record { events = []; reaches = refl; count = refl }))

pub whole_run_counted : (plan : SeenPlan) (choices : List ℕ) → IsPlan plan → (whole_run plan choices).events ≡ effects_of (whole_run plan choices).world
whole_run_counted plan choices is_plan = let run = whole_run_counts plan choices in sym run.count ∙ sym (events_counted plan run.events (whole_run plan choices).world is_plan run.reaches)

pub whole_run_bounded : (plan : SeenPlan) (choices : List ℕ) → IsPlan plan → (whole_run plan choices).events ≤ bound_of plan
whole_run_bounded plan choices is_plan = let run = whole_run_counts plan choices in omega (arith, run.count, events_bounded plan run.events (whole_run plan choices).world is_plan run.reaches)

-- ---- a count that goes on from another

-- what a run comes to, where it counts on from a number
pub record CountsOn (a : ℕ) (run from_none : Counted) : Type 0 where
  pub world : run.world ≡ from_none.world
  pub events : run.events ≡ a + from_none.events

carried_counts_on : (rest : Counted → Counted) (plan : SeenPlan) (world : WorldState) (a b : ℕ) (o : Option Event) → ((new : WorldState) → CountsOn a (rest (record { world = new; events = a + b + 1 })) (rest (record { world = new; events = b + 1 })))
    → CountsOn a (rest_after rest plan (record { world = world; events = a + b }) o) (rest_after rest plan (record { world = world; events = b }) o)
carried_counts_on rest plan world a b None further = record { world = refl; events = refl }
carried_counts_on rest plan world a b (Some e) further = further (unwrap_or (world_after plan world e) world)

pub finish_counts_on : (n : ℕ) (plan : SeenPlan) (world : WorldState) (a b : ℕ) → CountsOn a (finish_within n plan (record { world = world; events = a + b })) (finish_within n plan (record { world = world; events = b }))
finish_counts_on zero plan world a b = record { world = refl; events = refl }
finish_counts_on (suc n) plan world a b =
    let same : a + (b + 1) ≡ a + b + 1 = omega arith in
    carried_counts_on (finish_within n plan) plan world a b (slice_get (enabled_events plan world) 0) (λ new.
    subst (λ (k : ℕ). CountsOn a (finish_within n plan (record { world = new; events = k })) (finish_within n plan (record { world = new; events = b + 1 }))) same
    (finish_counts_on n plan new a (b + 1)))

-- a whole run counts on from where the choices end
pub whole_run_goes_on : (plan : SeenPlan) (choices : List ℕ) → CountsOn (replay plan (from_here (start plan)) choices).events (whole_run plan choices) (after_choices plan choices)
whole_run_goes_on plan choices =
    let replayed : Counted = replay plan (from_here (start plan)) choices in
    let same : replayed.events + 0 ≡ replayed.events = omega arith in
    subst (λ (n : ℕ). CountsOn replayed.events (finish_within (bound_of plan) plan (record { world = replayed.world; events = n })) (after_choices plan choices)) same
    (finish_counts_on (bound_of plan) plan replayed.world replayed.events 0)

-- ---- the bound is small

module _ (plan : SeenPlan) (is_plan : IsPlan plan) where
  -- a sum over a range is within as many times a bound of its terms
  within : (f : ℕ → ℕ) (n m : ℕ) → ((k : ℕ) → k < n → f k ≤ m) → sum (map f (range_with_len 0 n)) ≤ n * m
  within f n m each = omega (
    arith,
    sum-map f (range_with_len 0 n),
    ap (λ (k : ℕ). k * m) (length-range_with_len 0 n),
    sum_by-le f m (range_with_len 0 n) (All-from_get_or (λ k. f k ≤ m) (range_with_len 0 n) 0 (λ k h.
        let is : k < n = omega (arith, length-range_with_len 0 n) in
        subst (λ x. f x ≤ m) (sym (get_or-range_with_len 0 n k 0 is ∙ zero-add k)) (each k is))),
  )

  edge_few : (edge : ℕ) → edge < edge_count plan → 4 * meals_due plan edge + 8 ≤ 8 * MAX_JOBS + 8
  edge_few edge is_edge = omega (
    arith,
    is_plan.ordered edge is_edge,
    is_plan.within edge is_edge,
    is_plan.few_jobs (lo_of plan edge) (omega (arith, is_plan.ordered edge is_edge, is_plan.within edge is_edge)),
    is_plan.few_jobs (hi_of plan edge) (is_plan.within edge is_edge),
  )

  pub bound_is_small : bound_of plan ≤ 3 * (MAX_SITES * MAX_JOBS) + MAX_EDGES * (8 * MAX_JOBS + 8)
  bound_is_small = omega (
    arith,
    within (job_count plan) (site_count plan) MAX_JOBS is_plan.few_jobs,
    within (λ edge. 4 * meals_due plan edge + 8) (edge_count plan) (8 * MAX_JOBS + 8) edge_few,
    is_plan.few_sites,
    is_plan.few_edges,
  )
