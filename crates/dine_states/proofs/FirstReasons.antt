-- The first reason of an event is found by its end, and by one reason after the other.
use Rattle.std.proofs.Common.{◌≡◌, ℕ, ◌+◌, ◌<◌, ◌≤◌, ◌==◌, ◌&&◌, not, nat_lt, cond, Bool, true, false, Option, Some, None, MatchOption, List, [], ◌∷◌, drop, find, get_or, length, refl, sym, ◌∙◌, ap, subst}
use Rattle.std.specs.List.{list_any}
use Rattle.std.proofs.lemmas.Bool.{and_from, and_right, cond-false, cond-true, false≢true, le-ltb, lt-ltb}
use Rattle.std.proofs.lemmas.List.{at_drop_more}
use Rattle.std.proofs.lemmas.Option.{none-some, same_Some}
use Rattle.dine_token.specs.Log.{is_dirty}
use Rattle.dine_graph.specs.Plan.{SeenPlan, edges_of, site_count}
use Rattle.dine_rules.specs.declared.events.Event.{Event}
use Rattle.dine_rules.specs.declared.events.EventKind.{EventKind}
use Rattle.dine_rules.specs.declared.events.EventKind.TheVariants as event
use Rattle.dine_rules.specs.Holdings.{fork_at, hand_at, token_at}
use Rattle.dine_rules.specs.Letters.{has_close}
use Rattle.dine_rules.specs.Local.{is_eating, traffic_at}
use Rattle.dine_rules.specs.declared.events.Shape.{Shape}
use Rattle.dine_rules.specs.declared.events.Shape.TheVariants.{Takes, Puts, Alone}
use Rattle.dine_rules.specs.Steps.{shape_of}
use Rattle.dine_rules.specs.World.{WorldState, state_of}
use Rattle.dine_states.specs.declared.ends.End.{End}
use Rattle.dine_states.specs.declared.why.Reason.{Reason}
use Rattle.dine_states.specs.declared.why.Reason.TheVariants.{NoEvent, Closed, NoFork, NotAsked, Eating, Clean}
use Rattle.dine_states.specs.Ends.{IsEnd}
use Rattle.dine_states.specs.Reasons.{holds, is_event, is_within, place_in, reasons_of, why_not}
use Rattle.dine_states.specs.private.ReasonsAtEnds.{IsEndFor, event_place, holds_at, is_of_place}
use Rattle.dine_states.proofs.Reasons.{first_reason}

-- ---- one reason after the other

module _ (test : Reason → Bool) (reasons : List Reason) (i : ℕ) (within : i < length reasons) where
  -- a reason that holds is the first of those from there on
  pub here : test (get_or reasons i NoEvent) ≡ true → find test (drop i reasons) ≡ Some (get_or reasons i NoEvent)
  here h = at_drop_more (find test) reasons i NoEvent within ∙ cond-true (test (get_or reasons i NoEvent)) (Some (get_or reasons i NoEvent)) (find test (drop (i + 1) reasons)) h

  -- one that does not is passed over
  pub later : test (get_or reasons i NoEvent) ≡ false → find test (drop i reasons) ≡ find test (drop (i + 1) reasons)
  later h = at_drop_more (find test) reasons i NoEvent within ∙ cond-false (test (get_or reasons i NoEvent)) (Some (get_or reasons i NoEvent)) (find test (drop (i + 1) reasons)) h

-- ---- the end of an event

-- the place of an event that has one
at_place : (shape : Shape) (i : ℕ) → Some i ≡ event_place shape → (i ≡ place_in shape) × ((n : ℕ) → is_within n shape ≡ nat_lt i n)
at_place (Takes j) i is = (same_Some i j is, λ n. ap (λ (k : ℕ). nat_lt k n) (sym (same_Some i j is)))
at_place (Puts j) i is = (same_Some i j is, λ n. ap (λ (k : ℕ). nat_lt k n) (sym (same_Some i j is)))
at_place Alone i is = absurd (none-some i (sym is))

-- and one that has none
at_none : (shape : Shape) → None ≡ event_place shape → (place_in shape ≡ 0) × ((n : ℕ) → is_within n shape ≡ true)
at_none (Takes j) is = absurd (none-some j is)
at_none (Puts j) is = absurd (none-some j is)
at_none Alone is = (refl, λ n. refl)

-- no reason of an event without a place is about one
of_no_place : (kind : EventKind) → None ≡ event_place (shape_of kind) → list_any is_of_place (reasons_of kind) ≡ false
of_no_place (event.Take i) is = absurd (none-some i is)
of_no_place (event.Give i) is = absurd (none-some i is)
of_no_place (event.Ask i) is = absurd (none-some i is)
of_no_place (event.Done i) is = absurd (none-some i is)
of_no_place (event.Close i) is = absurd (none-some i is)
of_no_place _ is = refl

module _ (plan : SeenPlan) (e : Event) (within : e.site < site_count plan) where
  abbrev places : ℕ
  places = length (edges_of plan e.site)

  is_there : is_within places (shape_of e.kind) ≡ true → is_event plan e ≡ true
  is_there h = and_from (nat_lt e.site (site_count plan)) (is_within places (shape_of e.kind)) (lt-ltb e.site (site_count plan) within) h

  -- the end at the place of the event, if its site has that place
  pub end_there : (i : ℕ) (found : Option End) → Some i ≡ event_place (shape_of e.kind) → MatchOption found (length (edges_of plan e.site) ≤ i) (λ end. IsEnd plan end × (end.site ≡ e.site) × (end.place ≡ i)) → MatchOption found (is_event plan e ≡ false) (IsEndFor plan e)
  end_there i None is beyond = and_right (nat_lt e.site (site_count plan)) (is_within places (shape_of e.kind)) ((at_place (shape_of e.kind) i is).1 places ∙ le-ltb i places beyond)
  end_there i (Some end) is found =
      let at = at_place (shape_of e.kind) i is in
      let inside : i < places = subst (λ (s : ℕ). i < length (edges_of plan s)) found.1 (subst (λ (j : ℕ). j < length (edges_of plan end.site)) found.2 found.0.place) in
      let known : IsEndFor plan e end = record { there = is_there (at.1 places ∙ lt-ltb i places inside); within = within; site = found.1; place = found.2 ∙ at.0; is_end = λ reads. found.0 } in
      known

  -- what stands for it if the event has no place
  pub no_end : (end : End) → None ≡ event_place (shape_of e.kind) → end.site ≡ e.site → end.place ≡ 0 → IsEndFor plan e end
  no_end end is site place =
      let at = at_none (shape_of e.kind) is in
      record { there = is_there (at.1 places); within = within; site = site; place = place ∙ sym at.0; is_end = λ reads. absurd (false≢true (sym (of_no_place e.kind is) ∙ reads)) }

-- ---- the first reason

-- that there is no event is the first reason of each
pub none_there : (plan : SeenPlan) (world : WorldState) (e : Event) → is_event plan e ≡ false → Some NoEvent ≡ why_not plan world e
none_there plan world e none =
    let first = first_reason e.kind in
    sym (ap (find (holds plan world e)) first.1 ∙ cond-true (not (is_event plan e)) (Some NoEvent) (find (holds plan world e) first.0) (ap not none))

-- it is passed over if there is one
past : (is_there : Bool) (found : Option Reason) → is_there ≡ true → found ≡ cond (not is_there) (Some NoEvent) found
past is_there found is = sym (cond-false (not is_there) (Some NoEvent) found (ap not is))

-- whether the fork is clean is asked only if the site holds it
clean_last : (fork closed token eats dirty : Bool)
    → cond closed (Some Closed) (cond (not fork) (Some NoFork) (cond (not token) (Some NotAsked) (cond eats (Some Eating) (cond (not (fork && dirty)) (Some Clean) None))))
    ≡ cond closed (Some Closed) (cond (not fork) (Some NoFork) (cond (not token) (Some NotAsked) (cond eats (Some Eating) (cond (not dirty) (Some Clean) None))))
clean_last true closed token eats dirty = refl
clean_last false closed token eats dirty = refl

module _ (plan : SeenPlan) (world : WorldState) (s : ℕ) where
  by_kind : (kind : EventKind) → is_event plan (record { site = s; kind = kind }) ≡ true → find (holds_at plan world s (place_in (shape_of kind))) (reasons_of kind) ≡ why_not plan world (record { site = s; kind = kind })
  by_kind (event.Give i) is =
      let e : Event = record { site = s; kind = event.Give i } in
      let st = state_of world s in
      clean_last (fork_at plan s st i == 1) (has_close (traffic_at st i).put) (token_at plan s st i == 1) (is_eating st.phase) (is_dirty (hand_at s st i))
      ∙ past (is_event plan e) (find (holds plan world e) (Closed ∷ NoFork ∷ NotAsked ∷ Eating ∷ Clean ∷ [])) is
  by_kind kind is = past (is_event plan (record { site = s; kind = kind })) (find (holds_at plan world s (place_in (shape_of kind))) (reasons_of kind)) is

-- the first reason that holds at the end of an event is the first reason of the event
pub first_is : (plan : SeenPlan) (world : WorldState) (e : Event) (end : End) (reasons : List Reason) → reasons ≡ reasons_of e.kind → IsEndFor plan e end
    → find (holds_at plan world end.site end.place) reasons ≡ why_not plan world e
first_is plan world e end reasons are at =
    ap (find (holds_at plan world end.site end.place)) are
    ∙ ap (λ (s : ℕ). find (holds_at plan world s end.place) (reasons_of e.kind)) at.site
    ∙ ap (λ (i : ℕ). find (holds_at plan world e.site i) (reasons_of e.kind)) at.place
    ∙ by_kind plan world e.site e.kind at.there
