-- A journal shows a failed meal exactly if it is the last one of a site that has quit.
use Rattle.std.proofs.Common.{◌≡◌, ◌↔◌, ℕ, zero, suc, ◌+◌, ◌<◌, ◌≤◌, cond, Bool, true, false, List, [], ◌∷◌, slice_get, Some, refl, sym, ◌∙◌, ap, subst, arith}
use Rattle.std.proofs.lemmas.Bool.{and_parts, not-true, true≢false}
use Rattle.std.proofs.lemmas.Option.{same_Some}
use Rattle.dine_graph.specs.Plan.{SeenPlan}
use Rattle.dine_rules.specs.declared.events.EventKind.{EventKind}
use Rattle.dine_rules.specs.declared.events.EventKind.TheVariants as event
use Rattle.dine_rules.specs.Journals.{IsJournal, fails_before, outcomes_in}
use Rattle.dine_rules.specs.Local.{LocalState, Traffic, is_eating, is_hungry, is_thinking, start_of, traffic_at}
use Rattle.dine_rules.specs.Steps.{Step, after, may}
use Rattle.dine_rules.proofs.shared.counting.Effects.{eating_counts, hungry_counts, thinking_counts}
use Rattle.dine_rules.proofs.journals.Going.{Go, IsStepFor, go_ate, journal_goes}

-- the site ended n meals
abbrev HasEnded : ℕ → LocalState → Type 0
HasEnded n state = state.ate ≡ n + cond {A = ℕ} (is_eating state.phase) 1 0

-- the site thinks, and has quit
record IsOver (state : LocalState) : Type 0 where
  thinks : is_thinking state.phase ≡ true
  must_not : state.must_quit ≡ false
  has : state.has_quit ≡ true

-- an event other than End and Quit
abbrev is_other : EventKind → Bool
is_other event.End = false
is_other event.Quit = false
is_other kind = true

-- what such an event leaves as it was
record Stays (kind : EventKind) (state new : LocalState) : Type 0 where
  fails : (kinds : List EventKind) → fails_before false (kind ∷ kinds) ≡ fails_before false kinds
  outcomes : (kinds : List EventKind) → outcomes_in false (kind ∷ kinds) ≡ outcomes_in false kinds
  ended : (n : ℕ) → HasEnded n state → HasEnded n new
  quit : new.has_quit ≡ state.has_quit
  over : IsOver state → IsOver new

-- an event that only moves letters
letters_move : (kind : EventKind) (state : LocalState) (traffic : List Traffic) → ((kinds : List EventKind) → fails_before false (kind ∷ kinds) ≡ fails_before false kinds)
    → ((kinds : List EventKind) → outcomes_in false (kind ∷ kinds) ≡ outcomes_in false kinds) → Stays kind state (record state { traffic = traffic })
letters_move kind state traffic fails outcomes = record { fails = fails; outcomes = outcomes; ended = λ n h. h; quit = refl; over = λ h. record { thinks = h.thinks; must_not = h.must_not; has = h.has } }

module _ (plan : SeenPlan) (s : ℕ) where
  stays : (kind : EventKind) (step : Step) (state : LocalState) → is_other kind ≡ true → IsStepFor kind step → may plan s state step ≡ true → Stays kind state (after plan s state step)
  stays (event.Take i) step state other h needs = subst (λ (x : Step). Stays (event.Take i) state (after plan s state x)) (sym h.1) (letters_move (event.Take i) state _ (λ kinds. refl) (λ kinds. refl))
  stays (event.Give i) step state other h needs = subst (λ (x : Step). Stays (event.Give i) state (after plan s state x)) (sym h) (letters_move (event.Give i) state _ (λ kinds. refl) (λ kinds. refl))
  stays event.End step state other h needs = absurd cc
  stays event.Quit step state other h needs = absurd cc
  stays event.Hungry step state other h needs =
      let parts = and_parts _ _ (subst (λ (x : Step). may plan s state x ≡ true) h needs) in
      let thinks : is_thinking state.phase ≡ true = (and_parts _ _ parts.0).0 in
      subst (λ (x : Step). Stays event.Hungry state (after plan s state x)) (sym h) (record {
        fails = λ kinds. refl;
        outcomes = λ kinds. refl;
        ended = λ n e. omega (arith, e, thinking_counts state.phase thinks);
        quit = refl;
        over = λ o. absurd (true≢false (sym o.has ∙ not-true state.has_quit (and_parts _ _ parts.1).1));
      })
  stays event.Begin step state other h needs =
      let hungry : is_hungry state.phase ≡ true = (and_parts _ _ (subst (λ (x : Step). may plan s state x ≡ true) h needs)).0 in
      subst (λ (x : Step). Stays event.Begin state (after plan s state x)) (sym h) (record {
        fails = λ kinds. refl;
        outcomes = λ kinds. refl;
        ended = λ n e. omega (arith, e, hungry_counts state.phase hungry);
        quit = refl;
        over = λ o. absurd (omega (arith, hungry_counts state.phase hungry, thinking_counts state.phase o.thinks));
      })
  stays (event.Ask i) step state other h needs = subst (λ (x : Step). Stays (event.Ask i) state (after plan s state x)) (sym h) (letters_move (event.Ask i) state _ (λ kinds. refl) (λ kinds. refl))
  stays (event.Done i) step state other h needs = subst (λ (x : Step). Stays (event.Done i) state (after plan s state x)) (sym h) (letters_move (event.Done i) state _ (λ kinds. refl) (λ kinds. refl))
  stays (event.Close i) step state other h needs = subst (λ (x : Step). Stays (event.Close i) state (after plan s state x)) (sym h) (letters_move (event.Close i) state _ (λ kinds. refl) (λ kinds. refl))

  -- ---- after a Quit

  -- no meal ends any more
  record EndsSo (state : LocalState) (kinds : List EventKind) (new : LocalState) : Type 0 where
    none : outcomes_in false kinds ≡ []
    same : new.ate ≡ state.ate
    has : new.has_quit ≡ true

  none_after : (kinds : List EventKind) (state new : LocalState) → Go plan s state kinds new → IsOver state → EndsSo state kinds new
  none_after [] state new go over = record { none = refl; same = ap (λ (x : LocalState). x.ate) (sym go); has = ap (λ (x : LocalState). x.has_quit) (sym go) ∙ over.has }
  none_after (event.End ∷ kinds) state new go over =
      let eats : is_eating state.phase ≡ true = subst (λ (x : Step). may plan s state x ≡ true) go.1.1 go.2 in
      absurd (omega (arith, eating_counts state.phase eats, thinking_counts state.phase over.thinks))
  none_after (event.Quit ∷ kinds) state new go over =
      let parts = and_parts (is_thinking state.phase) state.must_quit (subst (λ (x : Step). may plan s state x ≡ true) go.1 go.2) in
      absurd (true≢false (sym parts.1 ∙ over.must_not))
  none_after (kind ∷ kinds) state new go over =
      let one = stays kind go.0 state refl go.1 go.2 in
      let rest = none_after kinds (after plan s state go.0) new go.3 (one.over over) in
      let before : HasEnded state.ate state = omega (arith, thinking_counts state.phase over.thinks) in
      let then : HasEnded state.ate (after plan s state go.0) = one.ended state.ate before in
      record {
        none = one.outcomes kinds ∙ rest.none;
        same = omega (arith, rest.same, then, thinking_counts (after plan s state go.0).phase (one.over over).thinks);
        has = rest.has;
      }

  -- the state after a Quit
  quit_now : (state : LocalState) (step : Step) → IsStepFor event.Quit step → may plan s state step ≡ true → IsOver (after plan s state step)
  quit_now state step h needs =
      let parts = and_parts (is_thinking state.phase) state.must_quit (subst (λ (x : Step). may plan s state x ≡ true) h needs) in
      subst (λ (x : Step). IsOver (after plan s state x)) (sym h) (record { thinks = parts.0; must_not = refl; has = refl })

  quit_ends : (n : ℕ) (state : LocalState) (step : Step) → IsStepFor event.Quit step → may plan s state step ≡ true → HasEnded n state → (after plan s state step).ate ≡ n
  quit_ends n state step h needs ended =
      let parts = and_parts (is_thinking state.phase) state.must_quit (subst (λ (x : Step). may plan s state x ≡ true) h needs) in
      ap (λ (x : Step). (after plan s state x).ate) h ∙ omega (arith, ended, thinking_counts state.phase parts.0)

  -- the state after an End
  end_ends : (n : ℕ) (state : LocalState) (step : Step) → IsStepFor event.End step → may plan s state step ≡ true → HasEnded n state → HasEnded (n + 1) (after plan s state step)
  end_ends n state step h needs ended =
      let eats : is_eating state.phase ≡ true = subst (λ (x : Step). may plan s state x ≡ true) h.1 needs in
      subst (λ (x : Step). HasEnded (n + 1) (after plan s state x)) (sym h.1) (omega (arith, ended, eating_counts state.phase eats))

  end_quits : (state : LocalState) (step : Step) → IsStepFor event.End step → (after plan s state step).has_quit ≡ state.has_quit
  end_quits state step h = ap (λ (x : Step). (after plan s state x).has_quit) h.1

  -- ---- the outcome of a meal

  module _ (new : LocalState) where
    -- n meals are all of the site, and it has quit
    abbrev IsLast : ℕ → Type 0
    IsLast n = (n ≡ new.ate) × (new.has_quit ≡ true)

    fails_so : (kinds : List EventKind) (state : LocalState) (n : ℕ) → Go plan s state kinds new → state.has_quit ≡ false → HasEnded n state → (fails_before false kinds ≡ true) ↔ IsLast n
    fails_so [] state n go not_yet ended = (λ h. absurd (true≢false (sym h)), λ h. absurd (true≢false (sym h.1 ∙ ap (λ (x : LocalState). x.has_quit) (sym go) ∙ not_yet)))
    fails_so (event.End ∷ kinds) state n go not_yet ended =
        let more : HasEnded (n + 1) (after plan s state go.0) = end_ends n state go.0 go.1 go.2 ended in
        let ate = go_ate plan s kinds (after plan s state go.0) new go.3 in
        (λ h. absurd (true≢false (sym h)), λ h. absurd (omega (arith, h.0, more, ate)))
    fails_so (event.Quit ∷ kinds) state n go not_yet ended =
        let over = none_after kinds (after plan s state go.0) new go.3 (quit_now state go.0 go.1 go.2) in
        let ate : n ≡ new.ate = sym (over.same ∙ quit_ends n state go.0 go.1 go.2 ended) in
        (λ h. (ate, over.has), λ h. refl)
    fails_so (kind ∷ kinds) state n go not_yet ended =
        let one = stays kind go.0 state refl go.1 go.2 in
        subst (λ (b : Bool). (b ≡ true) ↔ IsLast n) (sym (one.fails kinds))
        (fails_so kinds (after plan s state go.0) n go.3 (one.quit ∙ not_yet) (one.ended n ended))

    -- the meal of this number, from 1, ended, and it failed exactly if it is the last and the site has quit
    abbrev IsShown : ℕ → Bool → Type 0
    IsShown n failed = (n ≤ new.ate) × ((failed ≡ true) ↔ IsLast n)

    shown_so : (kinds : List EventKind) (state : LocalState) (n : ℕ) → Go plan s state kinds new → state.has_quit ≡ false → HasEnded n state
        → (k : ℕ) (failed : Bool) → slice_get (outcomes_in false kinds) k ≡ Some failed → IsShown (n + k + 1) failed
    shown_so [] state n go not_yet ended k failed h = absurd cc
    shown_so (event.End ∷ kinds) state n go not_yet ended zero failed h =
        let more : HasEnded (n + 1) (after plan s state go.0) = end_ends n state go.0 go.1 go.2 ended in
        let ate = go_ate plan s kinds (after plan s state go.0) new go.3 in
        let outcome : fails_before false kinds ≡ failed = same_Some (fails_before false kinds) failed h in
        let number : n + 1 ≡ n + 0 + 1 = omega arith in
        subst (λ (m : ℕ). IsShown m failed) number (
          omega (arith, more, ate),
          subst (λ (b : Bool). (b ≡ true) ↔ IsLast (n + 1)) outcome
              (fails_so kinds (after plan s state go.0) (n + 1) go.3 (end_quits state go.0 go.1 ∙ not_yet) more),
        )
    shown_so (event.End ∷ kinds) state n go not_yet ended (suc k) failed h =
        let more : HasEnded (n + 1) (after plan s state go.0) = end_ends n state go.0 go.1 go.2 ended in
        let number : n + 1 + k + 1 ≡ n + suc k + 1 = omega arith in
        subst (λ (m : ℕ). IsShown m failed) number (shown_so kinds (after plan s state go.0) (n + 1) go.3 (end_quits state go.0 go.1 ∙ not_yet) more k failed h)
    shown_so (event.Quit ∷ kinds) state n go not_yet ended k failed h =
        let over = none_after kinds (after plan s state go.0) new go.3 (quit_now state go.0 go.1 go.2) in
        let at : slice_get [] k ≡ Some failed = ap (λ (x : List Bool). slice_get x k) (sym over.none) ∙ h in
        absurd cc
    shown_so (kind ∷ kinds) state n go not_yet ended k failed h =
        let one = stays kind go.0 state refl go.1 go.2 in
        shown_so kinds (after plan s state go.0) n go.3 (one.quit ∙ not_yet) (one.ended n ended) k failed (ap (λ (x : List Bool). slice_get x k) (sym (one.outcomes kinds)) ∙ h)

  pub journal_shows : (journal : List EventKind) (state : LocalState) → IsJournal plan s journal state → (k : ℕ) (failed : Bool) → slice_get (outcomes_in false journal) k ≡ Some failed
      → (k < state.ate) × ((failed ≡ true) ↔ ((k + 1 ≡ state.ate) × (state.has_quit ≡ true)))
  journal_shows journal state is k failed h =
      let go = journal_goes plan s (λ i. (traffic_at state i).taken) state.must_quit journal (start_of plan s) state is in
      let shown = shown_so state journal (start_of plan s) 0 go refl refl k failed h in
      let number : 0 + k + 1 ≡ k + 1 = omega arith in
      (omega (arith, shown.0), subst (λ (m : ℕ). (failed ≡ true) ↔ IsLast state m) number shown.1)
