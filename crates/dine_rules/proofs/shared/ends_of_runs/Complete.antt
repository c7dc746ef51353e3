-- In a complete world no event is enabled.
use Rattle.std.proofs.Common.{◌≡◌, ℕ, ◌<◌, nat_lt, true, false, not, ◌&&◌, ◌==◌, List, [], ◌∷◌, length, slice_get, Some, None, refl, sym, ◌∙◌, ap, inl, inr, arith}
use Rattle.std.specs.List.{flat_map, range_with_len}
use Rattle.std.proofs.lemmas.Bool.{and_parts, not-true, true≢false, eqb-true, ltb-true, or_cases, or_right}
use Rattle.std.proofs.lemmas.Option.{slice_get_past}
use Rattle.dine_token.specs.Log.{is_dirty}
use Rattle.dine_graph.specs.Plan.{SeenPlan, IsPlan, edges_of, job_count, site_count}
use Rattle.dine_rules.specs.declared.events.Event.{Event}
use Rattle.dine_rules.specs.declared.events.EventKind.{EventKind}
use Rattle.dine_rules.specs.declared.events.EventKind.TheVariants as event
use Rattle.dine_rules.specs.declared.letters.Letter.{Letter}
use Rattle.dine_rules.specs.declared.letters.Letter.TheVariants as letter
use Rattle.dine_rules.specs.Letters.{has_close, has_done}
use Rattle.dine_rules.specs.Local.{LocalState, is_eating, is_thinking, meal_fails, traffic_at, has_no_job_left}
use Rattle.dine_rules.specs.Holdings.{fork_at, hand_at, token_at}
use Rattle.dine_rules.specs.Steps.{Step, may}
use Rattle.dine_rules.specs.Steps as step
use Rattle.dine_rules.specs.Streams.{KeepsStreams}
use Rattle.dine_rules.specs.World.{IsComplete, Reaches, WorldState, enabled_events, events_at, is_enabled, next_letter, put_to, state_of, step_of, world_after}
use Rattle.dine_rules.proofs.shared.lists.Counting.{has_close-append}
use Rattle.dine_rules.proofs.shared.counting.Enabled.{passes_at}
use Rattle.dine_rules.proofs.shared.ends_of_runs.Finishing.{get_cases, none_first}
use Rattle.dine_rules.proofs.shared.one_place.Keeping.{hungry_not_thinking}
use Rattle.dine_rules.proofs.shared.counting.Listed.{IsPlaceOf, by_step, place_of_step}
use Rattle.dine_rules.proofs.shared.one_site.SiteSteps.{not_thinking_while_eating}
use Rattle.dine_rules.proofs.shared.lists.Options.{option_map_parts, some_of}
use Rattle.dine_rules.proofs.shared.links.WorldStreams.{event_is_step, reached_kept}

module _ (plan : SeenPlan) (world : WorldState) (complete : IsComplete plan world) (s : ℕ) (is_site : s < site_count plan) (keeps : KeepsStreams plan s (state_of world s)) where
  abbrev state : LocalState
  state = state_of world s

  -- Close was put at each place, so no letter more is
  not_open : {P : Type 0} (i : ℕ) → i < length (edges_of plan s) → not (has_close (traffic_at state i).put) ≡ true → P
  not_open i within is_open =
      let closed = complete.all_closed s i is_site within in
      let put : has_close (traffic_at state i).put ≡ true = ap has_close closed.ends_in_close ∙ has_close-append closed.before_close (letter.Close ∷ []) ∙ or_right (has_close closed.before_close) true refl in
      absurd (true≢false (sym put ∙ not-true (has_close (traffic_at state i).put) is_open))

  -- all that was put was taken, so no letter comes
  no_next : (i : ℕ) → i < length (edges_of plan s) → next_letter plan world s i ≡ None
  no_next i within = ap (λ (l : List Letter). slice_get (put_to plan world s i) (length l)) (complete.all_taken s i is_site within)
      ∙ slice_get_past (put_to plan world s i) (length (put_to plan world s i)) (omega arith)

  no_give : (i : ℕ) → i < length (edges_of plan s) → may plan s state (step.Give i) ≡ true → ⊥
  no_give i within h =
      let needs = and_parts (nat_lt i (length state.traffic)) _ h in
      let last = and_parts (not (is_eating state.phase) && (fork_at plan s state i == 1 && token_at plan s state i == 1)) _ needs.1 in
      not_open i within (and_parts (is_dirty (hand_at s state i)) _ last.1).1

  no_ask : (i : ℕ) → i < length (edges_of plan s) → may plan s state (step.Ask i) ≡ true → ⊥
  no_ask i within h = not_open i within (and_parts _ _ (and_parts _ _ h).1).1

  no_done : (i : ℕ) → i < length (edges_of plan s) → may plan s state (step.Done i) ≡ true → ⊥
  no_done i within h =
      let needs = and_parts (nat_lt i (length state.traffic)) _ h in
      let last = and_parts (is_thinking state.phase && has_no_job_left plan s state) _ needs.1 in
      not_open i within (and_parts (not (has_done (traffic_at state i).put)) _ last.1).1

  no_close : (i : ℕ) → i < length (edges_of plan s) → may plan s state (step.Close i) ≡ true → ⊥
  no_close i within h = not_open i within (and_parts _ _ (and_parts _ _ h).1).1

  -- no jobs are left that it could eat
  none_left : state.ate < job_count plan s → state.has_quit ≡ false → ⊥
  none_left left stays = elim (or_cases (state.ate == job_count plan s) state.has_quit (complete.all_ate s is_site)) [
    | inl all ↦ absurd (omega (arith, eqb-true state.ate (job_count plan s) all))
    | inr quit ↦ true≢false (sym quit ∙ stays)
  ]

  no_hunger : may plan s state step.Hungry ≡ true → ⊥
  no_hunger h =
      let parts = and_parts (is_thinking state.phase && nat_lt state.ate (job_count plan s)) (not state.must_quit && not state.has_quit) h in
      let left : state.ate < job_count plan s = ltb-true state.ate (job_count plan s) (and_parts (is_thinking state.phase) (nat_lt state.ate (job_count plan s)) parts.0).1 in
      let stays : state.has_quit ≡ false = not-true state.has_quit (and_parts (not state.must_quit) (not state.has_quit) parts.1).1 in
      none_left left stays

  -- nor one that it could drop
  no_quitting : may plan s state step.Quit ≡ true → ⊥
  no_quitting h =
      let must : state.must_quit ≡ true = (and_parts (is_thinking state.phase) state.must_quit h).1 in
      none_left (keeps.must_drop must).2 (keeps.quits_once must)

  -- the site may do no step that is an event
  no_step : (kind : EventKind) (one : Step) → step_of plan world s kind ≡ Some one → may plan s state one ≡ true → IsPlaceOf (length (edges_of plan s)) kind → ⊥
  no_step (event.Take i) one is needs within =
      let w = option_map_parts (step.Take i) (next_letter plan world s i) one is in
      let none : None ≡ Some w.0 = sym (no_next i within) ∙ w.1 in
      absurd cc
  no_step (event.Give i) one is needs within = no_give i within (by_step plan world s (step.Give i) one is needs)
  no_step event.End one is needs within = not_thinking_while_eating state.phase (by_step plan world s (step.End (meal_fails plan s state)) one is needs) (complete.all_think s is_site)
  no_step event.Begin one is needs within = hungry_not_thinking state.phase (and_parts _ _ (by_step plan world s step.Begin one is needs)).0 (complete.all_think s is_site)
  no_step event.Quit one is needs within = no_quitting (by_step plan world s step.Quit one is needs)
  no_step event.Hungry one is needs within = no_hunger (by_step plan world s step.Hungry one is needs)
  no_step (event.Ask i) one is needs within = no_ask i within (by_step plan world s (step.Ask i) one is needs)
  no_step (event.Done i) one is needs within = no_done i within (by_step plan world s (step.Done i) one is needs)
  no_step (event.Close i) one is needs within = no_close i within (by_step plan world s (step.Close i) one is needs)

-- a complete world that events reach has no enabled event
pub complete_is_stuck : (plan : SeenPlan) (events : List Event) (world : WorldState) → IsPlan plan → Reaches plan events world → IsComplete plan world → enabled_events plan world ≡ []
complete_is_stuck plan events world is_plan reached complete = none_first (enabled_events plan world) (get_cases (slice_get (enabled_events plan world) 0) (λ e first.
    let new = some_of (world_after plan world e) (passes_at (is_enabled plan world) (flat_map (events_at plan) (range_with_len 0 (site_count plan))) 0 e first) in
    let one = event_is_step plan world e new.0 new.1 in
    let keeps = (reached_kept plan events world is_plan reached).keeps e.site one.is_site in
    no_step plan world complete e.site one.is_site keeps e.kind one.step one.step_is one.needs (place_of_step plan world e.site keeps.every_place e.kind one.step one.step_is one.needs)))
