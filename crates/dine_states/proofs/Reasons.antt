-- An event is enabled exactly if none of its reasons holds. The first part is about truth values alone.
use Rattle.std.proofs.Common.{◌≡◌, ℕ, zero, suc, ◌<◌, ◌≤◌, ◌==◌, ◌&&◌, ◌||◌, not, nat_lt, cond, Bool, true, false, Option, Some, None, is_some, List, [], ◌∷◌, drop, length, slice_get, slice_set, option_and_then, option_map, find, refl, sym, ◌∙◌, ap, subst, inl, inr, arith}
use Rattle.std.specs.List.{list_all, list_any, range_with_len}
use Rattle.std.proofs.lemmas.Bool.{cond-false, cond-true, eq-eqb, eqb-false, eqb-true, false≢true, le-ltb, lt-ltb, ltb-true, ne_eqb}
use Rattle.std.proofs.lemmas.List.{length-drop}
use Rattle.std.proofs.lemmas.Option.{none-some, slice_get_cases, slice_get_within}
use Rattle.dine_token.specs.Log.{is_dirty}
use Rattle.dine_graph.specs.Plan.{SeenPlan, edges_of, job_count, resigns, site_count}
use Rattle.dine_rules.specs.declared.events.Event.{Event}
use Rattle.dine_rules.specs.declared.events.EventKind.{EventKind}
use Rattle.dine_rules.specs.declared.events.EventKind.TheVariants as event
use Rattle.dine_rules.specs.declared.letters.Letter.{Letter}
use Rattle.dine_rules.specs.declared.letters.Letter.TheVariants as letter
use Rattle.dine_rules.specs.declared.phase.Phase.{Phase}
use Rattle.dine_rules.specs.declared.phase.Phase.TheVariants.{Thinking, Hungry, Eating}
use Rattle.dine_rules.specs.Breach.{is_allowed}
use Rattle.dine_rules.specs.Holdings.{fork_at, hand_at, token_at}
use Rattle.dine_rules.specs.Letters.{has_close, has_done}
use Rattle.dine_rules.specs.Links.{queue_to}
use Rattle.dine_rules.specs.Local.{LocalState, has_no_job_left, is_eating, is_hungry, is_thinking, meal_fails, traffic_at}
use Rattle.dine_rules.specs.Steps.{Step, is_ready, may, shape_of}
use Rattle.dine_rules.specs.Steps as step
use Rattle.dine_rules.specs.Streams.{KeepsStreams, is_orderly}
use Rattle.dine_rules.specs.World.{WorldState, is_enabled, local_after, next_letter, put_to, state_of, step_of}
use Rattle.dine_world.specs.Worlds.{IsReached}
use Rattle.dine_rules.proofs.shared.links.NextLetters.{in_order, reached_allowed}
use Rattle.dine_rules.proofs.shared.links.WorldStreams.{reached_kept}
use Rattle.dine_states.specs.declared.why.Reason.{Reason}
use Rattle.dine_states.specs.declared.why.Reason.TheVariants.{NoEvent}
use Rattle.dine_states.specs.Reasons.{holds, is_event, is_within, reasons_of, why_not}
use Rattle.dine_states.proofs.Reading.{enabled_is}

give_law : (p : Phase) (closed fork token dirty : Bool) → (closed || (not fork || (not token || (is_eating p || (not dirty || false))))) ≡ not ((not (is_eating p) && (fork && token)) && (dirty && not closed))
give_law p closed fork token dirty = grind arith

ask_law : (p : Phase) (closed fork token : Bool) → (closed || (fork || (not token || (not (is_hungry p) || false)))) ≡ not ((is_hungry p && (token && not fork)) && not closed)
ask_law p closed fork token = grind arith

close_law : (closed said heard : Bool) → (closed || (not said || (not heard || false))) ≡ not ((said && heard) && not closed)
close_law closed said heard = grind arith

begin_law : (p : Phase) (all_ready : Bool) → ((is_hungry p && not all_ready) || (is_eating p || (not (is_hungry p) || false))) ≡ not (is_hungry p && all_ready)
begin_law p all_ready = grind arith

hungry_law : (p : Phase) (quit must all_eaten : Bool) → (is_hungry p || (is_eating p || (quit || (must || ((all_eaten || quit) || false))))) ≡ not ((is_thinking p && not all_eaten) && (not must && not quit))
hungry_law p quit must all_eaten = grind arith

quit_law : (p : Phase) (must resigns quit : Bool) → (must ≡ true → (resigns ≡ true) × (is_thinking p ≡ true)) → (must ≡ true → quit ≡ false) → (not resigns || (quit || (is_eating p || (not must || false)))) ≡ not (is_thinking p && must)
quit_law p must resigns quit drops once = grind arith

done_law : (p : Phase) (closed said none_left : Bool) → (closed ≡ true → said ≡ true) → (is_hungry p ≡ true → none_left ≡ false) → (said || (not none_left || (is_eating p || false))) ≡ not ((is_thinking p && none_left) && (not said && not closed))
done_law p closed said none_left order left = grind arith

-- ---- the reasons of an event

some_found : {A : Type 0} (p : A → Bool) (xs : List A) → is_some (find p xs) ≡ list_any p xs
some_found p [] = refl
some_found p (x ∷ xs) = by_case (p x) (some_found p xs) where
  by_case : (b : Bool) → is_some (find p xs) ≡ list_any p xs → is_some (cond b (Some x) (find p xs)) ≡ (b || list_any p xs)
  by_case true rest = refl
  by_case false rest = rest

-- What is known of a world that events reach from the start.
pub record Known (plan : SeenPlan) (world : WorldState) : Type 0 where
  pub streams : (s : ℕ) → s < site_count plan → KeepsStreams plan s (state_of world s)
  pub allowed : (s i : ℕ) → s < site_count plan → i < length (edges_of plan s) → (l : Letter) → next_letter plan world s i ≡ Some l → is_allowed plan s (state_of world s) i l ≡ true
  pub closed_said : (s i : ℕ) → s < site_count plan → has_close (traffic_at (state_of world s) i).put ≡ true → has_done (traffic_at (state_of world s) i).put ≡ true

-- a Close in order has a Done before it
done_before_close : (letters : List Letter) → is_orderly letters ≡ true → has_close letters ≡ true → has_done letters ≡ true
done_before_close [] order closed = absurd (false≢true closed)
done_before_close (letter.Fork fork ∷ letters) order closed = done_before_close letters order closed
done_before_close (letter.Request edge ∷ letters) order closed = done_before_close letters order closed
done_before_close (letter.Done ∷ letters) order closed = refl
done_before_close (letter.Close ∷ letters) order closed = absurd (false≢true order)

pub known_of : (plan : SeenPlan) (world : WorldState) → IsReached plan world → Known plan world
known_of plan world reached = record {
  streams = (reached_kept plan reached.events world reached.is_plan reached.reaches).keeps;
  allowed = λ s i is_site here l next. reached_allowed plan reached.events world s i reached.is_plan reached.reaches is_site here l next;
  closed_said = λ s i is_site closed. done_before_close (traffic_at (state_of world s) i).put (in_order plan reached.events world reached.is_plan reached.reaches s is_site i).orderly closed;
}

-- each kind of events has a first reason, that there is no such event
pub first_reason : (kind : EventKind) → (rest : List Reason) × (reasons_of kind ≡ NoEvent ∷ rest)
first_reason (event.Take i) = (_, refl)
first_reason _ = (_, refl)

-- no letter is in a link whose next letter is none, and one is in any other
none_left_in : (xs : List Letter) (k : ℕ) → slice_get xs k ≡ None → (length (drop k xs) == 0) ≡ true
none_left_in xs k is = elim (slice_get_cases xs k).1 [
  | inl w ↦ absurd (none-some w.0 (sym is ∙ w.2))
  | inr w ↦ eq-eqb (length (drop k xs)) 0 (omega (arith, length-drop k xs, w.0))
]

some_left_in : (xs : List Letter) (k : ℕ) (l : Letter) → slice_get xs k ≡ Some l → (length (drop k xs) == 0) ≡ false
some_left_in xs k l is = ne_eqb (length (drop k xs)) 0 (λ none. omega (arith, none, length-drop k xs, slice_get_within xs k l is))

or_true : (b : Bool) → (b || true) ≡ true
or_true true = refl
or_true false = refl

or_false : (b : Bool) → (b || false) ≡ b
or_false true = refl
or_false false = refl

module _ (plan : SeenPlan) (world : WorldState) (known : Known plan world) (s : ℕ) (within : s < site_count plan) where
  abbrev st : LocalState
  st = state_of world s

  keeps : KeepsStreams plan s st
  keeps = known.streams s within

  -- an event without a place
  alone : (kind : EventKind) (step : Step) (holding needs : Bool) → step_of plan world s kind ≡ Some step → may plan s st step ≡ needs → holding ≡ not needs
      → is_event plan (record { site = s; kind = kind }) ≡ true
      → (not (is_event plan (record { site = s; kind = kind })) || holding) ≡ not (is_enabled plan world (record { site = s; kind = kind }))
  alone kind one holding needs is may_is law here =
      ap (λ (b : Bool). not b || holding) here ∙ law ∙ ap not (sym (enabled_is plan world s kind one within is ∙ may_is))

  -- an event without a step is not enabled
  no_step : (kind : EventKind) → step_of plan world s kind ≡ None → is_enabled plan world (record { site = s; kind = kind }) ≡ false
  no_step kind is =
      ap (λ (o : Option WorldState). is_some o) (cond-true (nat_lt s (site_count plan)) _ None (lt-ltb s (site_count plan) within))
      ∙ ap (λ (o : Option Step). is_some (option_map (slice_set world s) (option_and_then (local_after plan s st) o))) is

  -- an event at a place
  placed : (kind : EventKind) (step : Step) (i : ℕ) (holding needs : Bool) → step_of plan world s kind ≡ Some step → may plan s st step ≡ (nat_lt i (length st.traffic) && needs)
      → (i < length st.traffic → holding ≡ not needs) → is_event plan (record { site = s; kind = kind }) ≡ (nat_lt s (site_count plan) && nat_lt i (length (edges_of plan s)))
      → (not (is_event plan (record { site = s; kind = kind })) || holding) ≡ not (is_enabled plan world (record { site = s; kind = kind }))
  placed kind one i holding needs is may_is law here =
      ap (λ (b : Bool). not b || holding) (here ∙ ap (λ (b : Bool). b && nat_lt i (length (edges_of plan s))) (lt-ltb s (site_count plan) within) ∙ ap (λ (n : ℕ). nat_lt i n) (sym keeps.every_place))
      ∙ by_place (nat_lt i (length st.traffic)) refl ∙ ap not (sym (enabled_is plan world s kind one within is ∙ may_is)) where
        by_place : (w : Bool) → nat_lt i (length st.traffic) ≡ w → (not w || holding) ≡ not (w && needs)
        by_place false is = refl
        by_place true is = law (ltb-true i (length st.traffic) is)

  in_plan : (nat_lt s (site_count plan) && true) ≡ true
  in_plan = ap (λ (b : Bool). b && true) (lt-ltb s (site_count plan) within)

  -- a site that lacks the fork has none
  no_fork : (i : ℕ) → i < length st.traffic → (fork_at plan s st i == 0) ≡ not (fork_at plan s st i == 1)
  no_fork i here = few (fork_at plan s st i) (keeps.places i here).one_fork where
    few : (n : ℕ) → n ≤ 1 → (n == 0) ≡ not (n == 1)
    few zero h = refl
    few (suc zero) h = refl
    few (suc (suc n)) h = absurd (omega (arith, h))

  -- a site that ate fewer meals than are due has not eaten all
  fewer : nat_lt st.ate (job_count plan s) ≡ not (st.ate == job_count plan s)
  fewer = by_case (st.ate == job_count plan s) refl where
    by_case : (b : Bool) → (st.ate == job_count plan s) ≡ b → nat_lt st.ate (job_count plan s) ≡ not b
    by_case true is = le-ltb st.ate (job_count plan s) (omega (arith, eqb-true st.ate (job_count plan s) is))
    by_case false is = lt-ltb st.ate (job_count plan s) (omega (arith, eqb-false st.ate (job_count plan s) is, keeps.ate_within))

  -- a hungry site has a job left
  hungry_left : is_hungry st.phase ≡ true → has_no_job_left plan s st ≡ false
  hungry_left hungry = by_case st.has_quit refl where
    eaten : (st.ate == job_count plan s) ≡ false
    eaten = ne_eqb st.ate (job_count plan s) (λ all. omega (arith, all, keeps.hungry_has_left hungry))

    awake : (p : Phase) → is_hungry p ≡ true → is_thinking p ≡ true → ⊥
    awake Thinking h t = false≢true h
    awake Hungry h t = false≢true t
    awake Eating h t = false≢true h

    by_case : (b : Bool) → st.has_quit ≡ b → has_no_job_left plan s st ≡ false
    by_case true is = absurd (awake st.phase hungry (keeps.has_dropped is).1)
    by_case false is = ap (λ (b : Bool). b || st.has_quit) eaten ∙ is

  -- the law for each kind of events
  by_kind : (kind : EventKind) → list_any (holds plan world (record { site = s; kind = kind })) (reasons_of kind) ≡ not (is_enabled plan world (record { site = s; kind = kind }))
  by_kind (event.Take i) = by_letter (next_letter plan world s i) refl where
    by_letter : (next : Option Letter) → next_letter plan world s i ≡ next → list_any (holds plan world (record { site = s; kind = event.Take i })) (reasons_of (event.Take i)) ≡ not (is_enabled plan world (record { site = s; kind = event.Take i }))
    by_letter None is =
        ap (λ (b : Bool). not (is_event plan (record { site = s; kind = event.Take i })) || (b || false)) (none_left_in (put_to plan world s i) (length (traffic_at st i).taken) is)
        ∙ or_true (not (is_event plan (record { site = s; kind = event.Take i }))) ∙ ap not (sym (no_step (event.Take i) (ap (option_map (step.Take i)) is)))
    by_letter (Some l) is =
        placed (event.Take i) (step.Take i l) i ((length (queue_to plan world s i) == 0) || false) (is_allowed plan s st i l) (ap (option_map (step.Take i)) is) refl
        (λ here. ap (λ (b : Bool). b || false) (some_left_in (put_to plan world s i) (length (traffic_at st i).taken) l is)
        ∙ sym (ap not (known.allowed s i within (subst (λ (n : ℕ). i < n) keeps.every_place here) l is))) refl
  by_kind (event.Give i) =
      placed (event.Give i) (step.Give i) i _ _ refl refl
      (λ here. give_law st.phase (has_close (traffic_at st i).put) (fork_at plan s st i == 1) (token_at plan s st i == 1) (is_dirty (hand_at s st i))) refl
  by_kind event.End = alone event.End (step.End (meal_fails plan s st)) _ _ refl refl (or_false (not (is_eating st.phase))) in_plan
  by_kind event.Begin = alone event.Begin step.Begin _ _ refl refl (begin_law st.phase (list_all (is_ready plan s st) (range_with_len 0 (length st.traffic)))) in_plan
  by_kind event.Quit =
      alone event.Quit step.Quit _ _ refl refl
      (quit_law st.phase st.must_quit (resigns plan s) st.has_quit (λ h. let w = keeps.must_drop h in (w.0, w.1)) keeps.quits_once) in_plan
  by_kind event.Hungry =
      alone event.Hungry step.Hungry _ _ refl (ap (λ (b : Bool). (is_thinking st.phase && b) && (not st.must_quit && not st.has_quit)) fewer)
      (hungry_law st.phase st.has_quit st.must_quit (st.ate == job_count plan s)) in_plan
  by_kind (event.Ask i) =
      placed (event.Ask i) (step.Ask i) i _ _ refl refl
      (λ here. ask_law st.phase (has_close (traffic_at st i).put) (fork_at plan s st i == 1) (token_at plan s st i == 1)
      ∙ ap (λ (b : Bool). not ((is_hungry st.phase && (token_at plan s st i == 1 && b)) && not (has_close (traffic_at st i).put))) (sym (no_fork i here))) refl
  by_kind (event.Done i) =
      placed (event.Done i) (step.Done i) i _ _ refl refl
      (λ here. done_law st.phase (has_close (traffic_at st i).put) (has_done (traffic_at st i).put) (has_no_job_left plan s st) (known.closed_said s i within) hungry_left) refl
  by_kind (event.Close i) =
      placed (event.Close i) (step.Close i) i _ _ refl refl
      (λ here. close_law (has_close (traffic_at st i).put) (has_done (traffic_at st i).put) (has_done (traffic_at st i).taken)) refl

-- there is a reason exactly if the event is not enabled
pub why_not_is : (plan : SeenPlan) (world : WorldState) (e : Event) → Known plan world → is_some (why_not plan world e) ≡ not (is_enabled plan world e)
why_not_is plan world e known = some_found (holds plan world e) (reasons_of e.kind) ∙ by_site (nat_lt e.site (site_count plan)) refl where
  by_site : (b : Bool) → nat_lt e.site (site_count plan) ≡ b → list_any (holds plan world e) (reasons_of e.kind) ≡ not (is_enabled plan world e)
  by_site true is = by_kind plan world known e.site (ltb-true e.site (site_count plan) is) e.kind
  by_site false is =
      let first = first_reason e.kind in
      ap (list_any (holds plan world e)) first.1
      ∙ ap (λ (b : Bool). not (b && is_within (length (edges_of plan e.site)) (shape_of e.kind)) || list_any (holds plan world e) first.0) is
      ∙ sym (ap (λ (o : Option WorldState). not (is_some o)) (cond-false (nat_lt e.site (site_count plan)) _ None is))
