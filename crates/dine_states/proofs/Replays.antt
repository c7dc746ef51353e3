-- Choices that are done one after the other, and lists of which one is written anew.
use Rattle.std.proofs.Common.{◌≡◌, ℕ, zero, suc, ◌+◌, List, [], ◌∷◌, ◌++◌, Bool, true, false, Some, length, map, slice_get, slice_index_or, slice_set, refl, sym, ◌∙◌, ap, subst, arith}
use Rattle.std.proofs.lemmas.List.{length-append}
use Rattle.dine_graph.specs.Plan.{SeenPlan}
use Rattle.dine_rules.specs.declared.events.Event.{Event}
use Rattle.dine_rules.specs.Schedules.{Counted, from_here, replay, run_after, run_after_choice}
use Rattle.dine_rules.specs.World.{WorldState, enabled_events, start}
use Rattle.dine_world.specs.Worlds.{IsWorldOf, RunsTo}
use Rattle.dine_states.specs.Schedules.{Chooses, IsScheduleOf, SeenSchedule, run_of}

-- one choice more
pub replay_more : (plan : SeenPlan) (now : Counted) (choices : List ℕ) (n : ℕ) → replay plan now (choices ++ n ∷ []) ≡ run_after_choice plan (replay plan now choices) n
replay_more plan now [] n = refl
replay_more plan now (c ∷ choices) n = replay_more plan (run_after_choice plan now c) choices n

-- an event that is chosen does the same whatever led to the world, and counts as one
pub chosen_from : (plan : SeenPlan) (now : Counted) (n : ℕ) (e : Event) → slice_get (enabled_events plan now.world) n ≡ Some e
    → ((run_after_choice plan now n).world ≡ (run_after_choice plan (from_here now.world) n).world) × ((run_after_choice plan now n).events ≡ now.events + 1)
chosen_from plan now n e is = (
  ap (λ o. (run_after plan now o).world) is ∙ sym (ap (λ o. (run_after plan (from_here now.world) o).world) is),
  ap (λ o. (run_after plan now o).events) is,
)

-- a schedule goes on by a choice that names an event
pub goes_on : (plan : SeenPlan) (old new : SeenSchedule) (choice : ℕ) (e : Event) (events : ℕ) → IsScheduleOf plan old
    → slice_get (enabled_events plan (run_of plan old.done).world) choice ≡ Some e
    → RunsTo plan (replay plan (from_here (run_of plan old.done).world) (choice ∷ [])) events new.world
    → new.done ≡ old.done ++ choice ∷ [] → IsScheduleOf plan new
goes_on plan old new choice e events is found run done =
    let before : Counted = run_of plan old.done in
    let w = chosen_from plan before choice e found in
    let whole : run_of plan new.done ≡ run_after_choice plan before choice = ap (run_of plan) done ∙ replay_more plan (from_here (start plan)) old.done choice in
    let long : length new.done ≡ length (old.done ++ choice ∷ []) = ap length done in record {
      counted = ap (λ run. run.events) whole ∙ omega (arith, w.1, is.counted, long, length-append old.done (choice ∷ []));
      stands = subst (λ (world : WorldState). IsWorldOf plan world new.world) (sym (ap (λ run. run.world) whole ∙ w.0)) run.stands;
    }

-- what is seen of the elements of a list stays if one of them is written anew and looks the same
pub set_same : {A B : Type 0} (f : A → B) (l : List A) (i : ℕ) (a d : A) → f a ≡ f (slice_index_or l i d) → map f (slice_set l i a) ≡ map f l
set_same f [] i a d is = refl
set_same {A} {B} f (x ∷ l) zero a d is = ap (λ (y : B). y ∷ map f l) is
set_same {A} {B} f (x ∷ l) (suc i) a d is = ap (λ (ys : List B). f x ∷ ys) (set_same f l i a d is)

-- a schedule stays one of its plan, whatever a choice does
pub stays : (plan : SeenPlan) (choice : ℕ) (chosen : Bool) (old new : SeenSchedule) → IsScheduleOf plan old → Chooses plan choice chosen old new → IsScheduleOf plan new
stays plan choice true old new is went = went.is
stays plan choice false old new is same = subst (IsScheduleOf plan) (sym same.1) is
