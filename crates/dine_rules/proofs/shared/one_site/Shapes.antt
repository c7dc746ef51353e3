-- What each step does with the letters of its site, by its shape.
use Rattle.std.proofs.Common.{◌≡◌, ℕ, Bool, true, length, Option, Some, refl, sym, ap, subst}
use Rattle.std.proofs.lemmas.Bool.{and_parts, ltb-true}
use Rattle.std.proofs.lemmas.Option.{same_Some}
use Rattle.dine_graph.specs.Plan.{SeenPlan}
use Rattle.dine_rules.specs.declared.events.EventKind.{EventKind}
use Rattle.dine_rules.specs.declared.events.EventKind.TheVariants as event
use Rattle.dine_rules.specs.declared.letters.Letter.{Letter}
use Rattle.dine_rules.specs.Local.{LocalState}
use Rattle.dine_rules.specs.declared.events.Shape.{Shape}
use Rattle.dine_rules.specs.declared.events.Shape.TheVariants.{Takes, Puts, Alone}
use Rattle.dine_rules.specs.Steps.{Step, Give, Ask, Hungry, Begin, End, Quit, Done, Close, Break, Take, shape_of, IsPlaceWithin, MovesBy, after, may, step_by, with_put, with_taken}
use Rattle.dine_rules.proofs.shared.lists.Options.{option_map_parts}

-- the shape of a step
abbrev pub step_shape : Step → Shape
step_shape (Give i) = Puts i
step_shape (Ask i) = Puts i
step_shape Hungry = Alone
step_shape Begin = Alone
step_shape (End failed) = Alone
step_shape Quit = Alone
step_shape (Done i) = Puts i
step_shape (Close i) = Puts i
step_shape (Break i) = Puts i
step_shape (Take i l) = Takes i

-- an event has the shape of its step
pub shape_is : (failed : Bool) (next : ℕ → Option Letter) (kind : EventKind) (step : Step) → step_by failed next kind ≡ Some step → step_shape step ≡ shape_of kind
shape_is failed next (event.Take i) step h = ap step_shape (sym (option_map_parts (Take i) (next i) step h).2)
shape_is failed next (event.Give i) step h = ap step_shape (sym (same_Some (Give i) step h))
shape_is failed next event.End step h = ap step_shape (sym (same_Some (End failed) step h))
shape_is failed next event.Quit step h = ap step_shape (sym (same_Some Quit step h))
shape_is failed next event.Begin step h = ap step_shape (sym (same_Some Begin step h))
shape_is failed next event.Hungry step h = ap step_shape (sym (same_Some Hungry step h))
shape_is failed next (event.Ask i) step h = ap step_shape (sym (same_Some (Ask i) step h))
shape_is failed next (event.Done i) step h = ap step_shape (sym (same_Some (Done i) step h))
shape_is failed next (event.Close i) step h = ap step_shape (sym (same_Some (Close i) step h))

module _ (plan : SeenPlan) (s : ℕ) (state : LocalState) where
  -- a step moves letters by its shape
  pub moved : (step : Step) → MovesBy (step_shape step) state (after plan s state step)
  moved (Give i) = (_, refl)
  moved (Ask i) = (_, refl)
  moved Hungry = refl
  moved Begin = refl
  moved (End failed) = refl
  moved Quit = refl
  moved (Done i) = (_, refl)
  moved (Close i) = (_, refl)
  moved (Break i) = (_, refl)
  moved (Take i l) = (l, refl)

  -- the place of a step that may be done is one of the site
  pub may_within : (step : Step) → may plan s state step ≡ true → IsPlaceWithin (length state.traffic) (step_shape step)
  may_within (Give i) h = ltb-true _ _ (and_parts _ _ h).0
  may_within (Ask i) h = ltb-true _ _ (and_parts _ _ h).0
  may_within Hungry h = tt
  may_within Begin h = tt
  may_within (End failed) h = tt
  may_within Quit h = tt
  may_within (Done i) h = ltb-true _ _ (and_parts _ _ h).0
  may_within (Close i) h = ltb-true _ _ (and_parts _ _ h).0
  may_within (Break i) h = ltb-true _ _ (and_parts _ _ h).0
  may_within (Take i l) h = ltb-true _ _ (and_parts _ _ h).0

  -- so does an event, and so is its place
  pub event_moved : (failed : Bool) (next : ℕ → Option Letter) (kind : EventKind) (step : Step) → step_by failed next kind ≡ Some step → MovesBy (shape_of kind) state (after plan s state step)
  event_moved failed next kind step h = subst (λ (shape : Shape). MovesBy shape state (after plan s state step)) (shape_is failed next kind step h) (moved step)

  pub event_within : (failed : Bool) (next : ℕ → Option Letter) (kind : EventKind) (step : Step) → step_by failed next kind ≡ Some step → may plan s state step ≡ true → IsPlaceWithin (length state.traffic) (shape_of kind)
  event_within failed next kind step h needs = subst (IsPlaceWithin (length state.traffic)) (shape_is failed next kind step h) (may_within step needs)

  -- what holds where a letter is put or taken, and where none moves, holds after each step
  pub by_moves : (P : LocalState → Type 0) (shape : Shape) (new : LocalState) → MovesBy shape state new → ((i : ℕ) (l : Letter) → shape ≡ Puts i → P (with_put i l state))
      → ((i : ℕ) (l : Letter) → shape ≡ Takes i → P (with_taken i l state)) → (new.traffic ≡ state.traffic → shape ≡ Alone → P new) → P new
  by_moves P (Puts i) new moves puts takes alone = subst P (sym moves.1) (puts i moves.0 refl)
  by_moves P (Takes i) new moves puts takes alone = subst P (sym moves.1) (takes i moves.0 refl)
  by_moves P Alone new moves puts takes alone = alone moves refl
