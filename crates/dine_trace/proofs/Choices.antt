-- A world that does the events of a list, and the choices that did those so far.
use Rattle.std.proofs.Common.{◌≡◌, ◌⊎◌, inl, inr, ℕ, zero, suc, ◌+◌, ◌<◌, ◌≤◌, true, List, [], ◌∷◌, ◌++◌, length, drop, get_or, slice_get, Option, Some, Result, Ok, Err, MatchResult, is_ok, is_some, unwrap_or, refl, sym, ◌∙◌, ap, subst, arith}
use Rattle.std.proofs.lemmas.List.{length_push}
use Rattle.std.proofs.lemmas.Option.{same_Some}
use Rattle.dine_graph.specs.Plan.{SeenPlan}
use Rattle.dine_rules.specs.declared.events.Event.{Event}
use Rattle.dine_rules.specs.Schedules.{Counted, from_here, replay, run_after, run_after_choice}
use Rattle.dine_rules.specs.World.{WorldState, after_events, enabled_events, is_enabled, start, world_after}
use Rattle.dine_rules.proofs.shared.lists.Options.{and_then_parts}
use Rattle.dine_world.specs.Worlds.{IsWorldOf, SeenWorld, WorldSteps}

-- The choices led from the start to this world, one event each, and the rest of the events leads to the end.
pub record GoesThrough (plan : SeenPlan) (events rest : List Event) (end : WorldState) (choices : List ℕ) (seen : SeenWorld) : Type 0 where
  pub state : WorldState
  pub stands : IsWorldOf plan state seen
  pub left : after_events plan state rest ≡ Some end
  pub led : replay plan (from_here (start plan)) choices ≡ record { world = state; events = length choices }
  pub many : length choices + length rest ≡ length events

-- one choice more
replay_more : (plan : SeenPlan) (now : Counted) (choices : List ℕ) (n : ℕ) → replay plan now (choices ++ n ∷ []) ≡ run_after_choice plan (replay plan now choices) n
replay_more plan now [] n = refl
replay_more plan now (x ∷ choices) n = replay_more plan (run_after_choice plan now x) choices n

module _ (plan : SeenPlan) (events rest : List Event) (e : Event) (end : WorldState) (choices : List ℕ) (seen : SeenWorld) (way : GoesThrough plan events (e ∷ rest) end choices seen) where
  -- the next event is enabled
  pub next_happens : (next : WorldState) × (world_after plan way.state e ≡ Some next) × (after_events plan next rest ≡ Some end)
  next_happens = and_then_parts (λ (x : WorldState). after_events plan x rest) (world_after plan way.state e) end way.left

  pub next_enabled : is_enabled plan way.state e ≡ true
  next_enabled = ap is_some next_happens.1

  -- when it is done, the rest is to come
  pub went_on : (n : ℕ) (new : SeenWorld) → slice_get (enabled_events plan way.state) n ≡ Some e → WorldSteps e seen new → GoesThrough plan events rest end (choices ++ n ∷ []) new
  went_on n new is steps =
      let did = steps plan way.state way.stands in
      let same : next_happens.0 ≡ did.after = same_Some next_happens.0 did.after (sym next_happens.1 ∙ did.happens) in
      let now : Counted = record { world = way.state; events = length choices } in
      let more : length choices + 1 ≡ length (choices ++ n ∷ []) = sym (length_push choices n) in
      let stepped : run_after_choice plan now n ≡ record { world = did.after; events = length choices + 1 } =
      ap (run_after plan now) is ∙ ap (λ (o : Option WorldState). record { world = unwrap_or o way.state; events = length choices + 1 }) did.happens in
      record {
        state = did.after;
        stands = did.stands;
        left = subst (λ (x : WorldState). after_events plan x rest ≡ Some end) same next_happens.2;
        led = replay_more plan (from_here (start plan)) choices n ∙ ap (λ (x : Counted). run_after_choice plan x n) way.led ∙ stepped
            ∙ ap (λ (k : ℕ). record { world = did.after; events = k }) more;
        many = omega (arith, way.many, length_push choices n);
      }

-- at the end nothing is to come
pub went_through : (plan : SeenPlan) (events : List Event) (end : WorldState) (choices : List ℕ) (seen : SeenWorld) → GoesThrough plan events [] end choices seen
    → replay plan (from_here (start plan)) choices ≡ record { world = end; events = length events }
went_through plan events end choices seen way =
    let same : way.state ≡ end = same_Some way.state end way.left in
    let many : length choices ≡ length events = omega (arith, way.many) in
    way.led ∙ ap (λ (w : WorldState). record { world = w; events = length choices }) same ∙ ap (λ (k : ℕ). record { world = end; events = k }) many

-- the event at a place comes before the rest
pub drop_event : (xs : List Event) (i : ℕ) (past : Event) → i < length xs → drop i xs ≡ get_or xs i past ∷ drop (i + 1) xs
drop_event [] i past h = absurd (omega arith)
drop_event (x ∷ xs) zero past h = refl
drop_event (x ∷ xs) (suc i) past h =
    let one : i + 1 ≡ suc i = omega arith in
    let two : suc i + 1 ≡ suc (suc i) = omega arith in
    drop_event xs i past (omega arith) ∙ ap (λ (n : ℕ). get_or xs i past ∷ drop n xs) one ∙ sym (ap (λ (n : ℕ). get_or xs i past ∷ drop n (x ∷ xs)) two)

-- behind the last event there is none
pub drop_all : (xs : List Event) (i : ℕ) → length xs ≤ i → drop i xs ≡ []
drop_all [] zero h = refl
drop_all [] (suc i) h = refl
drop_all (x ∷ xs) zero h = absurd (omega arith)
drop_all (x ∷ xs) (suc i) h = drop_all xs i (omega arith)

-- what holds of a call that returned Ok
pub if_ok : {X Y : Type 0} (P Q : Type 0) (r : Result X Y) → is_ok r ≡ true → MatchResult r (λ _. P) (λ _. Q) → P
if_ok P Q (Ok x) is p = p
if_ok P Q (Err y) is p = absurd cc

-- a number below the next one is below this one, or is this one
pub below_or_at : (n m : ℕ) → n < m + 1 → (n < m) ⊎ (n ≡ m)
below_or_at zero zero h = inr refl
below_or_at zero (suc m) h = inl (omega arith)
below_or_at (suc n) zero h = absurd (omega (arith, h))
below_or_at (suc n) (suc m) h = lifted (below_or_at n m (omega (arith, h)))
  where
    lifted : (n < m) ⊎ (n ≡ m) → (suc n < suc m) ⊎ (suc n ≡ suc m)
    lifted (inl less) = inl (omega (arith, less))
    lifted (inr same) = inr (ap suc same)
