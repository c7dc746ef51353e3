-- How many letters a site puts and takes at a place, by its events.
use Rattle.std.proofs.Common.{◌≡◌, ◌≢◌, ℕ, ◌+◌, ◌<◌, ◌==◌, Bool, true, false, cond, List, [], ◌∷◌, ◌++◌, map, get_or, length, slice_set, Some, refl, sym, ◌∙◌, ap, subst, inl, inr, arith, length-append}
use Rattle.std.proofs.lemmas.Bool.{cases_eq, cond-false, cond-true, eq-eqb, ne_eqb}
use Rattle.std.proofs.lemmas.List.{get_or-set_same, get_or-set_other, length-set}
use Rattle.std.proofs.lemmas.Option.{same_Some}
use Rattle.dine_graph.specs.Plan.{SeenPlan}
use Rattle.dine_rules.specs.declared.events.EventKind.{EventKind}
use Rattle.dine_rules.specs.declared.letters.Letter.{Letter}
use Rattle.dine_rules.specs.Local.{LocalState, Traffic, no_traffic, traffic_at}
use Rattle.dine_rules.specs.declared.events.Shape.{Shape}
use Rattle.dine_rules.specs.declared.events.Shape.TheVariants.{Takes, Puts, Alone}
use Rattle.dine_rules.specs.Steps.{MovesBy, shape_of}
use Rattle.dine_rules.specs.Journals.{fails_before, next_of_these, state_after, state_after_all}
use Rattle.dine_rules.proofs.shared.lists.Options.{and_then_parts}
use Rattle.dine_rules.proofs.shared.one_site.Shapes.{event_moved}
use Rattle.dine_rules.proofs.shared.journals.JournalStates.{own_step}
use Rattle.dine_rules.specs.Timed.{is_put_at, is_take_at, moments_of}

-- how many events pass the test
abbrev pub count : (Shape → Bool) → List EventKind → ℕ
count test [] = 0
count test (kind ∷ kinds) = cond (test (shape_of kind)) 1 0 + count test kinds

pub moments_count : (test : Shape → Bool) (es : List (EventKind × ℕ)) → length (moments_of test es) ≡ count test (map (λ e. e.0) es)
moments_count test [] = refl
moments_count test (e ∷ es) = by_case (moments_count test es) (test (shape_of e.0)) where
  by_case : length (moments_of test es) ≡ count test (map (λ e. e.0) es) → (b : Bool) → length (cond b (e.1 ∷ moments_of test es) (moments_of test es)) ≡ cond {A = ℕ} b 1 0 + count test (map (λ e. e.0) es)
  by_case rest true = omega (arith, rest)
  by_case rest false = omega (arith, rest)

pub moments_append : (test : Shape → Bool) (xs ys : List (EventKind × ℕ)) → moments_of test (xs ++ ys) ≡ moments_of test xs ++ moments_of test ys
moments_append test [] ys = refl
moments_append test (e ∷ es) ys = by_case (moments_append test es ys) (test (shape_of e.0)) where
  by_case : moments_of test (es ++ ys) ≡ moments_of test es ++ moments_of test ys → (b : Bool) → cond b (e.1 ∷ moments_of test (es ++ ys)) (moments_of test (es ++ ys)) ≡ cond b (e.1 ∷ moments_of test es) (moments_of test es) ++ moments_of test ys
  by_case rest true = ap (λ (z : List ℕ). e.1 ∷ z) rest
  by_case rest false = rest

-- ---- what one step moves

-- the traffic at a place after that of a place was changed
changed_here : (traffics : List Traffic) (i j : ℕ) (traffic : Traffic) → j < length traffics → i ≡ j → get_or (slice_set traffics i traffic) j no_traffic ≡ traffic
changed_here traffics i j traffic within is = subst (λ (k : ℕ). get_or (slice_set traffics k traffic) j no_traffic ≡ traffic) (sym is) (get_or-set_same traffics j traffic no_traffic within)

changed_other : (traffics : List Traffic) (i j : ℕ) (traffic : Traffic) → i ≢ j → get_or (slice_set traffics i traffic) j no_traffic ≡ get_or traffics j no_traffic
changed_other traffics i j traffic differs = get_or-set_other traffics i j traffic no_traffic (λ is. differs (sym is))

pub keeps_places : (shape : Shape) (state new : LocalState) → MovesBy shape state new → length new.traffic ≡ length state.traffic
keeps_places (Takes i) state new moves = ap (λ (x : LocalState). length x.traffic) moves.1 ∙ length-set state.traffic i _
keeps_places (Puts i) state new moves = ap (λ (x : LocalState). length x.traffic) moves.1 ∙ length-set state.traffic i _
keeps_places Alone state new moves = ap length moves

pub puts_one : (j : ℕ) (shape : Shape) (state new : LocalState) → MovesBy shape state new → j < length state.traffic → length (traffic_at new j).put ≡ length (traffic_at state j).put + cond {A = ℕ} (is_put_at j shape) 1 0
puts_one j (Takes i) state new moves within = elim (cases_eq i j) [
  | inl is ↦
      let e = ap (λ (x : LocalState). length (traffic_at x j).put) moves.1 ∙ ap (λ (x : Traffic). length x.put) (changed_here state.traffic i j _ within is) ∙ ap (λ (k : ℕ). length (traffic_at state k).put) is in
      omega (arith, e)
  | inr differs ↦ let e = ap (λ (x : LocalState). length (traffic_at x j).put) moves.1 ∙ ap (λ (x : Traffic). length x.put) (changed_other state.traffic i j _ differs) in omega (arith, e)
]
puts_one j (Puts i) state new moves within = elim (cases_eq i j) [
  | inl is ↦
      let e = ap (λ (x : LocalState). length (traffic_at x j).put) moves.1 ∙ ap (λ (x : Traffic). length x.put) (changed_here state.traffic i j _ within is) ∙ ap (λ (k : ℕ). length ((traffic_at state k).put ++ moves.0 ∷ [])) is in
      let one : cond {A = ℕ} (j == i) 1 0 ≡ 1 = cond-true (j == i) 1 0 (eq-eqb j i (sym is)) in
      omega (arith, e, one, length-append (traffic_at state j).put (moves.0 ∷ []))
  | inr differs ↦
      let e = ap (λ (x : LocalState). length (traffic_at x j).put) moves.1 ∙ ap (λ (x : Traffic). length x.put) (changed_other state.traffic i j _ differs) in
      let none : cond {A = ℕ} (j == i) 1 0 ≡ 0 = cond-false (j == i) 1 0 (ne_eqb j i (λ is. differs (sym is))) in
      omega (arith, e, none)
]
puts_one j Alone state new moves within = let e = ap (λ (x : List Traffic). length (get_or x j no_traffic).put) moves in omega (arith, e)

pub takes_one : (j : ℕ) (shape : Shape) (state new : LocalState) → MovesBy shape state new → j < length state.traffic → length (traffic_at new j).taken ≡ length (traffic_at state j).taken + cond {A = ℕ} (is_take_at j shape) 1 0
takes_one j (Puts i) state new moves within = elim (cases_eq i j) [
  | inl is ↦
      let e = ap (λ (x : LocalState). length (traffic_at x j).taken) moves.1 ∙ ap (λ (x : Traffic). length x.taken) (changed_here state.traffic i j _ within is) ∙ ap (λ (k : ℕ). length (traffic_at state k).taken) is in
      omega (arith, e)
  | inr differs ↦ let e = ap (λ (x : LocalState). length (traffic_at x j).taken) moves.1 ∙ ap (λ (x : Traffic). length x.taken) (changed_other state.traffic i j _ differs) in omega (arith, e)
]
takes_one j (Takes i) state new moves within = elim (cases_eq i j) [
  | inl is ↦
      let e = ap (λ (x : LocalState). length (traffic_at x j).taken) moves.1 ∙ ap (λ (x : Traffic). length x.taken) (changed_here state.traffic i j _ within is) ∙ ap (λ (k : ℕ). length ((traffic_at state k).taken ++ moves.0 ∷ [])) is in
      let one : cond {A = ℕ} (j == i) 1 0 ≡ 1 = cond-true (j == i) 1 0 (eq-eqb j i (sym is)) in
      omega (arith, e, one, length-append (traffic_at state j).taken (moves.0 ∷ []))
  | inr differs ↦
      let e = ap (λ (x : LocalState). length (traffic_at x j).taken) moves.1 ∙ ap (λ (x : Traffic). length x.taken) (changed_other state.traffic i j _ differs) in
      let none : cond {A = ℕ} (j == i) 1 0 ≡ 0 = cond-false (j == i) 1 0 (ne_eqb j i (λ is. differs (sym is))) in
      omega (arith, e, none)
]
takes_one j Alone state new moves within = let e = ap (λ (x : List Traffic). length (get_or x j no_traffic).taken) moves in omega (arith, e)

-- ---- what a list of events moves

module _ (plan : SeenPlan) (s : ℕ) (letters : ℕ → List Letter) (last : Bool) (j : ℕ) where
  -- how many letters of one kind of traffic there are in a state, and which events add one
  module _ (number : LocalState → ℕ) (test : Shape → Bool)
      (one : (shape : Shape) (state new : LocalState) → MovesBy shape state new → j < length state.traffic → number new ≡ number state + cond {A = ℕ} (test shape) 1 0) where
    all_counted : (kinds : List EventKind) (state end : LocalState) → j < length state.traffic → state_after_all plan s letters last state kinds ≡ Some end → number end ≡ number state + count test kinds
    all_counted [] state end within h = let e = ap number (sym (same_Some state end h)) in omega (arith, e)
    all_counted (kind ∷ kinds) state end within h =
        let failed : Bool = fails_before last kinds in
        let w = and_then_parts (λ (x : LocalState). state_after_all plan s letters last x kinds) (state_after plan s letters failed state kind) end h in
        let own = own_step plan s letters failed state w.0 kind w.1 in
        let moves : MovesBy (shape_of kind) state w.0 = subst (MovesBy (shape_of kind) state) own.changes (event_moved plan s state failed (next_of_these letters state) kind own.step own.step_is) in
        let first = one (shape_of kind) state w.0 moves within in
        let places = keeps_places (shape_of kind) state w.0 moves in
        let rest = all_counted kinds w.0 end (omega arith) w.2 in
        omega (arith, first, rest)

  pub puts_counted : (kinds : List EventKind) (state end : LocalState) → j < length state.traffic → state_after_all plan s letters last state kinds ≡ Some end
      → length (traffic_at end j).put ≡ length (traffic_at state j).put + count (is_put_at j) kinds
  puts_counted = all_counted (λ state. length (traffic_at state j).put) (is_put_at j) (λ shape state new. puts_one j shape state new)

  pub takes_counted : (kinds : List EventKind) (state end : LocalState) → j < length state.traffic → state_after_all plan s letters last state kinds ≡ Some end
      → length (traffic_at end j).taken ≡ length (traffic_at state j).taken + count (is_take_at j) kinds
  takes_counted = all_counted (λ state. length (traffic_at state j).taken) (is_take_at j) (λ shape state new. takes_one j shape state new)
