-- Runs of a world: event after event.
use Rattle.std.proofs.Common.{◌≡◌, ℕ, zero, suc, ◌+◌, ◌<◌, ◌≤◌, true, List, [], ◌∷◌, ◌++◌, length, drop, get_or, slice_get, Option, Some, None, unwrap_or, refl, sym, ◌∙◌, ap, subst, arith}
use Rattle.std.proofs.lemmas.List.{length_push}
use Rattle.dine_graph.specs.Plan.{SeenPlan}
use Rattle.dine_rules.specs.declared.events.Event.{Event}
use Rattle.dine_rules.specs.Bound.{bound_of, effects_of}
use Rattle.dine_rules.specs.Schedules.{Counted, rest_after, run_after, run_after_choice, finish_within, replay, from_here}
use Rattle.dine_rules.specs.World.{WorldState, enabled_events, is_enabled, start, world_after}
use Rattle.dine_world.specs.Worlds.{WorldSteps, IsReached, IsWorldOf, RunsTo, SeenWorld, can_happen}
use Rattle.dine_world.proofs.all_sites.CanHappen.{can_happen_is}
use Rattle.dine_rules.proofs.shared.counting.Effects.{events_counted}
use Rattle.dine_rules.proofs.shared.counting.Enabled.{passes_at}
use Rattle.dine_rules.proofs.shared.counting.EffectBounds.{events_bounded}
use Rattle.dine_rules.proofs.shared.links.WorldStreams.{events_then}

-- an event that is chosen can happen
pub chosen_can : (plan : SeenPlan) (world : WorldState) (seen : SeenWorld) (k : ℕ) (e : Event) → IsWorldOf plan world seen → Some e ≡ slice_get (enabled_events plan world) k → can_happen seen e ≡ true
chosen_can plan world seen k e stands h = can_happen_is plan world seen stands e ∙ passes_at (is_enabled plan world) _ k e (sym h)

-- after an event there were more events than before, and still no more than the bound
longer : (plan : SeenPlan) (world new : WorldState) (e : Event) (n : ℕ) → IsReached plan world → world_after plan world e ≡ Some new → n ≤ effects_of world → (n + 1 ≤ effects_of new) × (n + 1 ≤ bound_of plan)
longer plan world new e n reached happens few =
    let events : List Event = reached.events ++ e ∷ [] in
    let reaches = events_then plan (start plan) world new reached.events e reached.reaches happens in
    let counted : effects_of new ≡ length events = events_counted plan events new reached.is_plan reaches in
    let before : effects_of world ≡ length reached.events = events_counted plan reached.events world reached.is_plan reached.reaches in
    let more : length events ≡ length reached.events + 1 = length_push reached.events e in
    (omega (arith, counted, before, more, few), omega (arith, counted, before, more, few, events_bounded plan events new reached.is_plan reaches))

-- ---- finishing

-- A run that goes on: so many events of the bound are left.
pub record IsUnderWay (plan : SeenPlan) (world : WorldState) (left : ℕ) (seen : SeenWorld) : Type 0 where
  pub now : Counted
  pub run : finish_within (bound_of plan) plan (from_here world) ≡ finish_within left plan now
  pub counted : now.events + left ≡ bound_of plan
  pub stands : IsWorldOf plan now.world seen
  pub few : now.events ≤ effects_of now.world

-- at its start
pub under_way_at_start : (plan : SeenPlan) (world : WorldState) (seen : SeenWorld) → IsWorldOf plan world seen → IsUnderWay plan world (bound_of plan) seen
under_way_at_start plan world seen stands = record { now = from_here world; run = refl; counted = omega arith; stands = stands; few = omega arith }

-- where an event can happen, there is one left
pub one_left : (plan : SeenPlan) (world : WorldState) (left : ℕ) (seen new : SeenWorld) (e : Event) → (way : IsUnderWay plan world left seen) → WorldSteps e seen new → 1 ≤ left
one_left plan world left seen new e way happens =
    let did = happens plan way.now.world way.stands in
    omega (arith, way.counted, (longer plan way.now.world did.after e way.now.events way.stands.reached did.happens way.few).1)

-- and it goes on after the first event
pub under_way_next : (plan : SeenPlan) (world : WorldState) (left rest : ℕ) (seen new : SeenWorld) (e : Event) → (way : IsUnderWay plan world left seen) → left ≡ suc rest
    → Some e ≡ slice_get (enabled_events plan way.now.world) 0 → WorldSteps e seen new → IsUnderWay plan world rest new
under_way_next plan world left rest seen new e way is_left first happens =
    let did = happens plan way.now.world way.stands in
    let next : Counted = record { world = did.after; events = way.now.events + 1 } in
    let step : finish_within (suc rest) plan way.now ≡ finish_within rest plan next = ap (rest_after (finish_within rest plan) plan way.now) (sym first)
    ∙ ap (λ (w : WorldState). finish_within rest plan (record { world = w; events = way.now.events + 1 })) (ap (λ (o : Option WorldState). unwrap_or o way.now.world) did.happens) in
    record {
      now = next;
      run = way.run ∙ ap (λ (n : ℕ). finish_within n plan way.now) is_left ∙ step;
      counted = omega (arith, way.counted, is_left);
      stands = did.stands;
      few = (longer plan way.now.world did.after e way.now.events way.stands.reached did.happens way.few).0;
    }

-- it ends where nothing is enabled
pub finished : (plan : SeenPlan) (n : ℕ) (now : Counted) → None ≡ slice_get (enabled_events plan now.world) 0 → finish_within n plan now ≡ now
finished plan zero now h = refl
finished plan (suc n) now h = ap (rest_after (finish_within n plan) plan now) (sym h)

pub runs_to : (plan : SeenPlan) (world : WorldState) (left events : ℕ) (seen : SeenWorld) → (way : IsUnderWay plan world left seen) → None ≡ slice_get (enabled_events plan way.now.world) 0
    → events + left ≡ bound_of plan → RunsTo plan (finish_within (bound_of plan) plan (from_here world)) events seen
runs_to plan world left events seen way none counted =
    let is : finish_within (bound_of plan) plan (from_here world) ≡ way.now = way.run ∙ finished plan left way.now none in
    let same : way.now.events ≡ events = omega (arith, way.counted, counted) in
    subst (λ (run : Counted). RunsTo plan run events seen) (sym is) (record { counted = same; stands = way.stands })

-- ---- replaying

-- A replay that goes on: so many choices are still to come.
pub record IsReplaying (plan : SeenPlan) (world : WorldState) (choices rest : List ℕ) (events : ℕ) (seen : SeenWorld) : Type 0 where
  pub now : Counted
  pub run : replay plan (from_here world) choices ≡ replay plan now rest
  pub counted : now.events ≡ events
  pub stands : IsWorldOf plan now.world seen

pub replaying_at_start : (plan : SeenPlan) (world : WorldState) (choices : List ℕ) (seen : SeenWorld) → IsWorldOf plan world seen → IsReplaying plan world choices choices 0 seen
replaying_at_start plan world choices seen stands = record { now = from_here world; run = refl; counted = refl; stands = stands }

-- a choice with an event
pub replaying_next : (plan : SeenPlan) (world : WorldState) (choices rest : List ℕ) (n events : ℕ) (seen new : SeenWorld) (e : Event) → (way : IsReplaying plan world choices (n ∷ rest) events seen)
    → Some e ≡ slice_get (enabled_events plan way.now.world) n → WorldSteps e seen new → IsReplaying plan world choices rest (events + 1) new
replaying_next plan world choices rest n events seen new e way is happens =
    let did = happens plan way.now.world way.stands in
    let next : Counted = record { world = did.after; events = way.now.events + 1 } in
    let step : run_after_choice plan way.now n ≡ next = ap (run_after plan way.now) (sym is) ∙ ap (λ (w : WorldState). record { world = w; events = way.now.events + 1 }) (ap (λ (o : Option WorldState). unwrap_or o way.now.world) did.happens) in
    record { now = next; run = way.run ∙ ap (λ (x : Counted). replay plan x rest) step; counted = omega (arith, way.counted); stands = did.stands }

-- a choice with none is passed over
pub replaying_on : (plan : SeenPlan) (world : WorldState) (choices rest : List ℕ) (n events : ℕ) (seen : SeenWorld) → (way : IsReplaying plan world choices (n ∷ rest) events seen)
    → None ≡ slice_get (enabled_events plan way.now.world) n → IsReplaying plan world choices rest events seen
replaying_on plan world choices rest n events seen way none = record {
  now = way.now;
  run = way.run ∙ ap (λ (o : Option Event). replay plan (run_after plan way.now o) rest) (sym none);
  counted = way.counted;
  stands = way.stands;
}

pub replayed : (plan : SeenPlan) (world : WorldState) (choices : List ℕ) (events : ℕ) (seen : SeenWorld) → IsReplaying plan world choices [] events seen → RunsTo plan (replay plan (from_here world) choices) events seen
replayed plan world choices events seen way = subst (λ (run : Counted). RunsTo plan run events seen) (sym way.run) (record { counted = way.counted; stands = way.stands })

-- the choice at a place comes before the rest
pub drop_choice : (xs : List ℕ) (i : ℕ) → i < length xs → drop i xs ≡ get_or xs i 0 ∷ drop (i + 1) xs
drop_choice [] i h = absurd (omega arith)
drop_choice (x ∷ xs) zero h = refl
drop_choice (x ∷ xs) (suc i) h =
    let one : i + 1 ≡ suc i = omega arith in
    let two : suc i + 1 ≡ suc (suc i) = omega arith in
    drop_choice xs i (omega arith) ∙ ap (λ (n : ℕ). get_or xs i 0 ∷ drop n xs) one ∙ sym (ap (λ (n : ℕ). get_or xs i 0 ∷ drop n (x ∷ xs)) two)

-- no choice is left
pub drop_all : (xs : List ℕ) (i : ℕ) → length xs ≤ i → drop i xs ≡ []
drop_all [] zero h = refl
drop_all [] (suc i) h = refl
drop_all (x ∷ xs) zero h = absurd (omega arith)
drop_all (x ∷ xs) (suc i) h = drop_all xs i (omega arith)
