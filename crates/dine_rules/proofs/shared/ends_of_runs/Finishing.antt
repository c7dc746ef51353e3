-- A run that does the first enabled event again and again ends in a world with no enabled event, which is complete.
use Rattle.std.proofs.Common.{◌≡◌, ℕ, zero, suc, ◌+◌, ◌≤◌, List, [], ◌∷◌, ◌++◌, length, slice_get, Option, Some, None, unwrap_or, refl, sym, ap, subst, arith, length-append}
use Rattle.std.specs.List.{range_with_len, flat_map}
use Rattle.dine_graph.specs.Plan.{SeenPlan, IsPlan, site_count}
use Rattle.dine_rules.specs.declared.events.Event.{Event}
use Rattle.dine_rules.specs.World.{WorldState, start, world_after, is_enabled, events_at, enabled_events, Reaches, IsComplete}
use Rattle.dine_rules.specs.Bound.{bound_of}
use Rattle.dine_rules.specs.Schedules.{Counted, run_after, run_after_choice, replay, rest_after, finish_within, whole_run}
use Rattle.dine_rules.proofs.shared.precedence.Acyclic.{precedence_acyclic}
use Rattle.dine_rules.proofs.shared.counting.EffectBounds.{events_bounded}
use Rattle.dine_rules.proofs.shared.counting.Enabled.{passes_at, still}
use Rattle.dine_rules.proofs.shared.links.NextLetters.{in_order}
use Rattle.dine_rules.proofs.shared.ends_of_runs.Stuck.{still_is_complete}
use Rattle.dine_rules.proofs.shared.lists.Options.{some_of}
use Rattle.dine_rules.proofs.shared.links.WorldStreams.{events_then, reached_kept}

-- a world that events reach and in which no event is enabled is complete
pub stuck_is_complete : (plan : SeenPlan) (events : List Event) (world : WorldState) → IsPlan plan → Reaches plan events world → enabled_events plan world ≡ [] → IsComplete plan world
stuck_is_complete plan events world is_plan reached none = still_is_complete plan is_plan world (reached_kept plan events world is_plan reached) (in_order plan events world is_plan reached)
    (λ s is_site. still plan world none s is_site) (precedence_acyclic plan events world is_plan reached)

-- ---- one event more

-- a list with no first element is empty
pub none_first : {A : Type 0} (xs : List A) → slice_get xs 0 ≡ None → xs ≡ []
none_first [] h = refl
none_first (x ∷ xs) h = absurd cc

-- where nothing is there, there is none
pub get_cases : {A : Type 0} (o : Option A) → ((x : A) → o ≡ Some x → ⊥) → o ≡ None
get_cases None h = refl
get_cases (Some x) h = absurd (h x refl)

-- an enabled event that is chosen leads on by one event
pub record LeadsTo (plan : SeenPlan) (events : List Event) (world : WorldState) : Type 0 where
  pub event : Event
  pub reaches : Reaches plan (events ++ event ∷ []) world

pub choice_leads : (plan : SeenPlan) (now : Counted) (events : List Event) (k : ℕ) (e : Event) → Reaches plan events now.world → slice_get (enabled_events plan now.world) k ≡ Some e → LeadsTo plan events (run_after plan now (Some e)).world
choice_leads plan now events k e reached is =
    let w = some_of (world_after plan now.world e) (passes_at (is_enabled plan now.world) (flat_map (events_at plan) (range_with_len 0 (site_count plan))) k e is) in
    record {
      event = e;
      reaches = subst (Reaches plan (events ++ e ∷ [])) (sym (ap (λ (o : Option WorldState). unwrap_or o now.world) w.1)) (events_then plan (start plan) now.world w.0 events e reached w.1);
    }

-- ---- a run

-- some events reach the world
pub record IsReachedBy (plan : SeenPlan) (world : WorldState) : Type 0 where
  pub events : List Event
  pub reaches : Reaches plan events world

-- a choice leads from such a world to such a world
choice_reaches : (plan : SeenPlan) (now : Counted) (k : ℕ) (o : Option Event) → IsReachedBy plan now.world → slice_get (enabled_events plan now.world) k ≡ o → IsReachedBy plan (run_after plan now o).world
choice_reaches plan now k None reached is = reached
choice_reaches plan now k (Some e) reached is = let w = choice_leads plan now reached.events k e reached.reaches is in record { events = reached.events ++ w.event ∷ []; reaches = w.reaches }

-- and so do choices one after the other
replay_reaches : (plan : SeenPlan) (now : Counted) (choices : List ℕ) → IsReachedBy plan now.world → IsReachedBy plan (replay plan now choices).world
replay_reaches plan now [] reached = reached
replay_reaches plan now (k ∷ choices) reached = replay_reaches plan (run_after_choice plan now k) choices (choice_reaches plan now k (slice_get (enabled_events plan now.world) k) reached refl)

-- a world that some events reach, and in which no event is enabled
pub record IsHalted (plan : SeenPlan) (world : WorldState) : Type 0 where
  pub events : List Event
  pub reaches : Reaches plan events world
  pub none : enabled_events plan world ≡ []

module _ (plan : SeenPlan) (is_plan : IsPlan plan) where
  -- after as many events as the bound none is enabled
  none_left : (now : Counted) (events : List Event) → Reaches plan events now.world → bound_of plan ≤ length events → enabled_events plan now.world ≡ []
  none_left now events reached full = none_first (enabled_events plan now.world) (get_cases (slice_get (enabled_events plan now.world) 0) (λ e is.
      let w = choice_leads plan now events 0 e reached is in
      omega (arith, events_bounded plan (events ++ w.event ∷ []) (run_after plan now (Some e)).world is_plan w.reaches, length-append events (w.event ∷ []))))

  -- with no enabled event a run has halted, and with one it goes on
  goes_on : (rest : Counted → Counted) (now : Counted) (events : List Event) (o : Option Event) → Reaches plan events now.world → slice_get (enabled_events plan now.world) 0 ≡ o
      → ((e : Event) → LeadsTo plan events (run_after plan now (Some e)).world → IsHalted plan (rest (run_after plan now (Some e))).world) → IsHalted plan (rest_after rest plan now o).world
  goes_on rest now events None reached is further = record { events = events; reaches = reached; none = none_first (enabled_events plan now.world) is }
  goes_on rest now events (Some e) reached is further = further e (choice_leads plan now events 0 e reached is)

  -- so it halts where it may do enough events
  halts : (n : ℕ) (now : Counted) (events : List Event) → Reaches plan events now.world → bound_of plan ≤ length events + n → IsHalted plan (finish_within n plan now).world
  halts zero now events reached enough = record { events = events; reaches = reached; none = none_left now events reached (omega arith) }
  halts (suc n) now events reached enough = goes_on (finish_within n plan) now events (slice_get (enabled_events plan now.world) 0) reached refl
      (λ e w. halts n (run_after plan now (Some e)) (events ++ w.event ∷ []) w.reaches (omega (arith, length-append events (w.event ∷ []))))

  -- within the bound it halts from each world that events reach
  pub finish_halts : (now : Counted) (events : List Event) → Reaches plan events now.world → IsHalted plan (finish_within (bound_of plan) plan now).world
  finish_halts now events reached = halts (bound_of plan) now events reached (omega arith)

  -- and so does a whole run
  pub whole_run_halts : (choices : List ℕ) → IsHalted plan (whole_run plan choices).world
  whole_run_halts choices =
      let w = replay_reaches plan (record { world = start plan; events = 0 }) choices (record { events = []; reaches = refl }) in
      finish_halts (replay plan (record { world = start plan; events = 0 }) choices) w.events w.reaches

  -- a halted world is complete
  pub halted_is_complete : (world : WorldState) → IsHalted plan world → IsComplete plan world
  halted_is_complete world halted = stuck_is_complete plan halted.events world is_plan halted.reaches halted.none
