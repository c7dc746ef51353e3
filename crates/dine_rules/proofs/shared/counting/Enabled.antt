-- The enabled events of a world: each is enabled, and where there is none, no site may do a step of its own.
use Rattle.std.proofs.Common.{◌≡◌, ◌⊎◌, ℕ, zero, suc, ◌+◌, ◌<◌, ◌≤◌, nat_lt, Bool, true, false, List, [], ◌∷◌, ◌++◌, filter, length, map, slice_get, slice_set, Option, Some, None, is_some, refl, sym, ◌∙◌, ap, subst, inl, inr, arith}
use Rattle.std.specs.List.{range_with_len, flat_map}
use Rattle.std.specs.Option.{option_map, option_and_then}
use Rattle.std.proofs.lemmas.Bool.{true≢false, cases_Bool, cases_eq, cond-true, cond-false, false_from_ne_true, lt-ltb}
use Rattle.std.proofs.lemmas.List.Concat.{flat_map-cons}
use Rattle.dine_graph.specs.Plan.{SeenPlan, site_count, edges_of}
use Rattle.dine_rules.specs.declared.letters.Letter.{Letter}
use Rattle.dine_rules.specs.declared.events.Event.{Event}
use Rattle.dine_rules.specs.declared.events.EventKind.{EventKind}
use Rattle.dine_rules.specs.declared.events.EventKind.TheVariants as event
use Rattle.dine_rules.specs.Local.{LocalState, is_eating, meal_fails}
use Rattle.dine_rules.specs.Steps.{Step, Give, Ask, Hungry, Begin, End, Quit, Done, Close, Take, after, may}
use Rattle.dine_rules.specs.World.{WorldState, state_of, next_letter, step_of, local_after, site_after, is_enabled, kinds_at, placeless_kinds, events_at, enabled_events}

-- ---- elements of lists

-- x is an element of the list
abbrev IsIn : {X : Type 0} → X → List X → Type 0
IsIn x [] = ⊥
IsIn x (y ∷ ys) = (y ≡ x) ⊎ IsIn x ys

-- an element of the front is one of the whole
in_front : {X : Type 0} (x : X) (xs ys : List X) → IsIn x xs → IsIn x (xs ++ ys)
in_front x [] ys h = absurd h
in_front x (y ∷ xs) ys (inl same) = inl same
in_front x (y ∷ xs) ys (inr h) = inr (in_front x xs ys h)

-- and so is an element of the rest
in_rest : {X : Type 0} (x : X) (xs ys : List X) → IsIn x ys → IsIn x (xs ++ ys)
in_rest x [] ys h = h
in_rest x (y ∷ xs) ys h = inr (in_rest x xs ys h)

-- the image of an element is an element of the images
in_map : {X Y : Type 0} (f : X → Y) (x : X) (xs : List X) → IsIn x xs → IsIn (f x) (map f xs)
in_map f x [] h = absurd h
in_map f x (y ∷ xs) (inl same) = inl (ap f same)
in_map f x (y ∷ xs) (inr h) = inr (in_map f x xs h)

-- an element of one of the lists is an element of them joined
in_flat_map : {X Y : Type 0} (f : X → List Y) (y : Y) (x : X) (xs : List X) → IsIn x xs → IsIn y (f x) → IsIn y (flat_map f xs)
in_flat_map f y x [] h k = absurd h
in_flat_map f y x (z ∷ xs) (inl same) k = subst (IsIn y) (sym (flat_map-cons f z xs)) (in_front y (f z) (flat_map f xs) (subst (λ (w : _). IsIn y (f w)) (sym same) k))
in_flat_map f y x (z ∷ xs) (inr h) k = subst (IsIn y) (sym (flat_map-cons f z xs)) (in_rest y (f z) (flat_map f xs) (in_flat_map f y x xs h k))

-- a number of a range
in_range : (a n x : ℕ) → a ≤ x → x < a + n → IsIn x (range_with_len a n)
in_range a zero x low high = absurd (omega arith)
in_range a (suc n) x low high = elim (cases_eq a x) [
  | inl same ↦ inl same
  | inr other ↦ inr (in_range (a + 1) n x (omega arith) (omega arith))
]

-- where none passes a test, an element fails it
none_passes : {X : Type 0} (test : X → Bool) (x : X) (xs : List X) → filter test xs ≡ [] → IsIn x xs → test x ≡ false
none_passes test x [] none h = absurd h
none_passes test x (y ∷ xs) none h = elim (cases_Bool (test y)) [
  | inl passes ↦ absurd (let some : y ∷ filter test xs ≡ [] = sym (cond-true (test y) (y ∷ filter test xs) (filter test xs) passes) ∙ none in cc)
  | inr fails ↦
      let rest : filter test xs ≡ [] = sym (cond-false (test y) (y ∷ filter test xs) (filter test xs) fails) ∙ none in
      elim h [
        | inl same ↦ ap test (sym same) ∙ fails
        | inr later ↦ none_passes test x xs rest later
      ]
]

-- what a test lets through passes it
pub passes_at : {X : Type 0} (test : X → Bool) (xs : List X) (k : ℕ) (x : X) → slice_get (filter test xs) k ≡ Some x → test x ≡ true
passes_at test [] k x h = absurd cc
passes_at test (y ∷ xs) k x h = elim (cases_Bool (test y)) [
  | inl passes ↦ by_place k (sym (ap (λ (l : List _). slice_get l k) (cond-true (test y) (y ∷ filter test xs) (filter test xs) passes)) ∙ h) passes (λ j is. passes_at test xs j x is)
  | inr fails ↦ passes_at test xs k x (sym (ap (λ (l : List _). slice_get l k) (cond-false (test y) (y ∷ filter test xs) (filter test xs) fails)) ∙ h)
] where
  by_place : (j : ℕ) → slice_get (y ∷ filter test xs) j ≡ Some x → test y ≡ true → ((n : ℕ) → slice_get (filter test xs) n ≡ Some x → test x ≡ true) → test x ≡ true
  by_place zero is passes rest = let same : y ≡ x = cc in ap test (sym same) ∙ passes
  by_place (suc j) is passes rest = rest j is

-- ---- events

-- an event whose step the site may do is enabled
may_happen : (plan : SeenPlan) (world : WorldState) (s : ℕ) (kind : EventKind) (step : Step) → s < site_count plan → step_of plan world s kind ≡ Some step → may plan s (state_of world s) step ≡ true
    → is_enabled plan world (record { site = s; kind = kind }) ≡ true
may_happen plan world s kind step is_site is_step needs = ap (λ (o : Option WorldState). is_some o) (
    cond-true (nat_lt s (site_count plan)) (option_map (slice_set world s) (site_after plan world s kind)) None (lt-ltb s (site_count plan) is_site)
    ∙ ap (λ (o : Option Step). option_map (slice_set world s) (option_and_then (local_after plan s (state_of world s)) o)) is_step
    ∙ ap (λ (o : Option LocalState). option_map (slice_set world s) o) (cond-true (may plan s (state_of world s) step) (Some (after plan s (state_of world s) step)) None needs)
    )

-- the site may do no step, at any of its places
pub record IsStill (plan : SeenPlan) (world : WorldState) (s : ℕ) : Type 0 where
  pub take : (i : ℕ) (l : Letter) → i < length (edges_of plan s) → next_letter plan world s i ≡ Some l → may plan s (state_of world s) (Take i l) ≡ false
  pub give : (i : ℕ) → i < length (edges_of plan s) → may plan s (state_of world s) (Give i) ≡ false
  pub ends : is_eating (state_of world s).phase ≡ false
  pub begins : may plan s (state_of world s) Begin ≡ false
  pub quits : may plan s (state_of world s) Quit ≡ false
  pub hungers : may plan s (state_of world s) Hungry ≡ false
  pub ask : (i : ℕ) → i < length (edges_of plan s) → may plan s (state_of world s) (Ask i) ≡ false
  pub done : (i : ℕ) → i < length (edges_of plan s) → may plan s (state_of world s) (Done i) ≡ false
  pub close : (i : ℕ) → i < length (edges_of plan s) → may plan s (state_of world s) (Close i) ≡ false

module _ (plan : SeenPlan) (world : WorldState) (none : enabled_events plan world ≡ []) (s : ℕ) (is_site : s < site_count plan) where
  -- the places of the site
  abbrev places : List ℕ
  places = range_with_len 0 (length (edges_of plan s))

  -- an event of the site is not enabled, so its step may not be done
  no_step : (kind : EventKind) (step : Step) → IsIn kind (kinds_at places) → step_of plan world s kind ≡ Some step → may plan s (state_of world s) step ≡ false
  no_step kind step is_in is_step =
      let e : Event = record { site = s; kind = kind } in
      let fails : is_enabled plan world e ≡ false = none_passes (is_enabled plan world) e (flat_map (events_at plan) (range_with_len 0 (site_count plan))) none
      (in_flat_map (events_at plan) e s (range_with_len 0 (site_count plan)) (in_range 0 (site_count plan) s (omega arith) (omega arith))
      (in_map (λ (k : EventKind). record { site = s; kind = k }) kind (kinds_at places) is_in)) in
      false_from_ne_true (may plan s (state_of world s) step) (λ needs. true≢false (sym (may_happen plan world s kind step is_site is_step needs) ∙ fails))

  -- the kinds of events in their order: the Takes
  abbrev take_kinds : List EventKind
  take_kinds = map event.Take places

  -- with the Gives behind them
  abbrev give_kinds : List EventKind
  give_kinds = take_kinds ++ map event.Give places

  -- all up to the Asks
  abbrev ask_kinds : List EventKind
  ask_kinds = give_kinds ++ placeless_kinds ++ map event.Ask places

  -- all up to the Dones
  abbrev done_kinds : List EventKind
  done_kinds = ask_kinds ++ map event.Done places

  -- each of these is among all kinds: one up to the Dones
  from_done : (kind : EventKind) → IsIn kind done_kinds → IsIn kind (kinds_at places)
  from_done kind h = in_front kind done_kinds (map event.Close places) h

  -- one up to the Asks
  from_ask : (kind : EventKind) → IsIn kind ask_kinds → IsIn kind (kinds_at places)
  from_ask kind h = from_done kind (in_front kind ask_kinds (map event.Done places) h)

  -- one up to those without a place
  from_plain : (kind : EventKind) → IsIn kind (give_kinds ++ placeless_kinds) → IsIn kind (kinds_at places)
  from_plain kind h = from_ask kind (in_front kind (give_kinds ++ placeless_kinds) (map event.Ask places) h)

  -- one up to the Gives
  from_give : (kind : EventKind) → IsIn kind give_kinds → IsIn kind (kinds_at places)
  from_give kind h = from_plain kind (in_front kind give_kinds placeless_kinds h)

  -- one without a place
  plain : (kind : EventKind) → IsIn kind placeless_kinds → IsIn kind (kinds_at places)
  plain kind h = from_plain kind (in_rest kind give_kinds placeless_kinds h)

  -- a place of the site
  is_place : (i : ℕ) → i < length (edges_of plan s) → IsIn i places
  is_place i within = in_range 0 (length (edges_of plan s)) i (omega arith) (omega arith)

  -- where no event is enabled, the site may do no step
  pub still : IsStill plan world s
  still = record {
    take = λ i l within next. no_step (event.Take i) (Take i l) (from_give (event.Take i) (in_front (event.Take i) take_kinds (map event.Give places) (in_map event.Take i places (is_place i within))))
        (ap (option_map (Take i)) next);
    give = λ i within. no_step (event.Give i) (Give i) (from_give (event.Give i) (in_rest (event.Give i) take_kinds (map event.Give places) (in_map event.Give i places (is_place i within)))) refl;
    ends = no_step event.End (End (meal_fails plan s (state_of world s))) (plain event.End (inl refl)) refl;
    begins = no_step event.Begin Begin (plain event.Begin (inr (inl refl))) refl;
    quits = no_step event.Quit Quit (plain event.Quit (inr (inr (inl refl)))) refl;
    hungers = no_step event.Hungry Hungry (plain event.Hungry (inr (inr (inr (inl refl))))) refl;
    ask = λ i within. no_step (event.Ask i) (Ask i) (from_ask (event.Ask i) (in_rest (event.Ask i) (give_kinds ++ placeless_kinds) (map event.Ask places) (in_map event.Ask i places (is_place i within)))) refl;
    done = λ i within. no_step (event.Done i) (Done i) (from_done (event.Done i) (in_rest (event.Done i) ask_kinds (map event.Done places) (in_map event.Done i places (is_place i within)))) refl;
    close = λ i within. no_step (event.Close i) (Close i) (in_rest (event.Close i) done_kinds (map event.Close places) (in_map event.Close i places (is_place i within))) refl;
  }
