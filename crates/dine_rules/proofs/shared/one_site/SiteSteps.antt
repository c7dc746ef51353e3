-- Each step of a site keeps the streams.
use Rattle.std.proofs.Common.{◌≡◌, ℕ, zero, suc, ◌+◌, ◌<◌, ◌==◌, ◌&&◌, ◌||◌, nat_lt, Bool, true, false, [], ◌∷◌, ◌++◌, length, get_or, slice_set, refl, sym, ◌∙◌, ap, subst, inl, inr, arith, add-zero, zero-add}
use Rattle.std.specs.List.{range_with_len, list_all}
use Rattle.std.proofs.lemmas.Bool.{false≢true, true≢false, and_parts, not-true, cases_eq, cond-true, cond-false, eqb-true, false_from_ne_true, ltb-true, or_cases}
use Rattle.std.proofs.lemmas.List.{get_or-set_same, get_or-set_other, length-set}
use Rattle.dine_token.specs.Fork.{SeenFork}
use Rattle.dine_token.specs.Log.{meals_of}
use Rattle.dine_token.proofs.shared.Logs.{meals_of-push_move}
use Rattle.dine_graph.specs.Plan.{SeenPlan, IsPlan, site_count, job_count, resigns}
use Rattle.dine_rules.specs.declared.letters.Letter.{Letter}
use Rattle.dine_rules.specs.declared.letters.Letter.TheVariants as letter
use Rattle.dine_rules.specs.declared.phase.Phase.{Phase}
use Rattle.dine_rules.specs.declared.phase.Phase.TheVariants as phase
use Rattle.dine_rules.specs.Local.{LocalState, Traffic, no_traffic, traffic_at, edge_at, neighbour_at, is_thinking, is_hungry, is_eating}
use Rattle.dine_rules.specs.Letters.{last_log_or}
use Rattle.dine_rules.specs.Holdings.{fork_at, hand_at}
use Rattle.dine_rules.specs.Values.{AreValuesChained}
use Rattle.dine_rules.specs.Steps.{Step, Give, Ask, Hungry, Begin, End, Quit, Done, Close, Break, Take, LocalStep, after, may, is_open, is_ready, given_fork, with_put}
use Rattle.dine_rules.specs.Streams.{KeepsStreams, IsProper, is_lower_at}
use Rattle.dine_rules.proofs.shared.one_place.Hands.{meals_of-hand}
use Rattle.dine_rules.proofs.shared.one_place.Values.{values-give, values-put, values-take}
use Rattle.dine_rules.proofs.shared.one_place.Placed.{IsPlaced, placed}
use Rattle.dine_rules.proofs.shared.one_place.Keeping.{Keeps, hungry_not_thinking, Keeps-give, Keeps-ask, Keeps-done, Keeps-close, Keeps-take_fork, Keeps-take_request, Keeps-take_done, Keeps-take_close, Keeps-begin, Keeps-phase, Keeps-quit}
use Rattle.dine_rules.proofs.shared.one_site.Site.{spot_at, spot_is, Keeps-from, Keeps-to}

-- a test that each number of a range passes
pub list_all-range : (test : ℕ → Bool) (a n i : ℕ) → list_all test (range_with_len a n) ≡ true → i < n → test (a + i) ≡ true
list_all-range test a zero i h l = absurd (omega arith)
list_all-range test a (suc n) zero h l = ap test (add-zero a) ∙ (and_parts _ _ h).0
list_all-range test a (suc n) (suc i) h l =
    let same : a + 1 + i ≡ a + suc i = omega arith in
    ap test (sym same) ∙ list_all-range test (a + 1) n i (and_parts _ _ h).1 (omega arith)

pub not_hungry_while_eating : (p : Phase) → is_eating p ≡ true → is_hungry p ≡ true → ⊥
not_hungry_while_eating phase.Thinking e h = false≢true h
not_hungry_while_eating phase.Hungry e h = false≢true e
not_hungry_while_eating phase.Eating e h = false≢true h

pub not_thinking_while_eating : (p : Phase) → is_eating p ≡ true → is_thinking p ≡ true → ⊥
not_thinking_while_eating phase.Thinking e h = false≢true e
not_thinking_while_eating phase.Hungry e h = false≢true h
not_thinking_while_eating phase.Eating e h = false≢true h

module _ (plan : SeenPlan) (s : ℕ) (state : LocalState) where
  -- each place has an edge of the site
  pub placed_at : IsPlan plan → KeepsStreams plan s state → (i : ℕ) → i < length state.traffic → IsPlaced plan s i
  placed_at is_plan keeps i h = placed plan s i is_plan (omega (arith, keeps.every_place))

  -- what place i keeps, over its spot
  pub keeps_at : IsPlan plan → KeepsStreams plan s state → (i : ℕ) → i < length state.traffic → Keeps (spot_at plan s i) state.phase state.ate state.has_quit (traffic_at state i).put (traffic_at state i).taken
  keeps_at is_plan keeps i h = Keeps-from plan s state i (placed_at is_plan keeps i h) (keeps.places i h)

  -- the values of its Forks
  values_at : KeepsStreams plan s state → (i : ℕ) → i < length state.traffic → AreValuesChained plan s (edge_at plan s i) (traffic_at state i)
  values_at keeps i h = (keeps.places i h).put_values

  -- one place changes
  pub changed_at : IsPlan plan → KeepsStreams plan s state → (i : ℕ) → i < length state.traffic → (traffic : Traffic)
      → Keeps (spot_at plan s i) state.phase state.ate state.has_quit traffic.put traffic.taken → AreValuesChained plan s (edge_at plan s i) traffic
      → KeepsStreams plan s (record state { traffic = slice_set state.traffic i traffic })
  changed_at is_plan keeps i within traffic here values =
      let long : length (slice_set state.traffic i traffic) ≡ length state.traffic = length-set state.traffic i traffic in
      record {
        places = λ j h. Keeps-to plan s (record state { traffic = slice_set state.traffic i traffic }) j (placed plan s j is_plan (omega (arith, keeps.every_place))) (elim (cases_eq j i) [
          | inl same ↦ subst (λ (k : ℕ). Keeps (spot_at plan s k) state.phase state.ate state.has_quit (get_or (slice_set state.traffic i traffic) k no_traffic).put (get_or (slice_set state.traffic i traffic) k no_traffic).taken) (sym same)
              (subst (λ (t : Traffic). Keeps (spot_at plan s i) state.phase state.ate state.has_quit t.put t.taken) (sym (get_or-set_same state.traffic i traffic no_traffic within)) here)
          | inr other ↦ subst (λ (t : Traffic). Keeps (spot_at plan s j) state.phase state.ate state.has_quit t.put t.taken) (sym (get_or-set_other state.traffic i j traffic no_traffic other)) (keeps_at is_plan keeps j (omega arith))
        ]) (elim (cases_eq j i) [
          | inl same ↦ subst (λ (k : ℕ). AreValuesChained plan s (edge_at plan s k) (get_or (slice_set state.traffic i traffic) k no_traffic)) (sym same)
              (subst (AreValuesChained plan s (edge_at plan s i)) (sym (get_or-set_same state.traffic i traffic no_traffic within)) values)
          | inr other ↦ subst (AreValuesChained plan s (edge_at plan s j)) (sym (get_or-set_other state.traffic i j traffic no_traffic other)) (values_at keeps j (omega arith))
        ]);
        every_place = long ∙ keeps.every_place;
        ate_within = keeps.ate_within;
        hungry_has_left = keeps.hungry_has_left;
        eater_has_begun = keeps.eater_has_begun;
        must_drop = keeps.must_drop;
        has_dropped = keeps.has_dropped;
        quits_once = keeps.quits_once;
      }

  -- the fork that is given has the value in hand
  given_values : (i : ℕ) → KeepsStreams plan s state → (within : i < length state.traffic) → fork_at plan s state i ≡ 1
      → AreValuesChained plan s (edge_at plan s i) (record (traffic_at state i) { put = (traffic_at state i).put ++ letter.Fork (given_fork plan s state i) ∷ [] })
  given_values i keeps within held =
      let here = keeps.places i within in
      let lower : Bool = is_lower_at plan s i in
      let all : meals_of s (given_fork plan s state i).log ≡ state.ate =
      meals_of-push_move s (hand_at s state i) (neighbour_at plan s i) ∙ meals_of-hand s state.ate (last_log_or [] (traffic_at state i).taken) here.last_within in
      values-give plan s (edge_at plan s i) (traffic_at state i) here.put_values state.ate (given_fork plan s state i)
      (λ low. omega (arith, held, here.forks_counted, cond-true {A = ℕ} lower 1 0 low)) (λ high. omega (arith, held, here.forks_counted, cond-false {A = ℕ} lower 1 0 high)) refl all

  give_keeps : (i : ℕ) → IsPlan plan → KeepsStreams plan s state → may plan s state (Give i) ≡ true → KeepsStreams plan s (after plan s state (Give i))
  give_keeps i is_plan keeps h =
      let parts = and_parts _ _ h in
      let within : i < length state.traffic = ltb-true _ _ parts.0 in
      let needs = and_parts _ _ parts.1 in
      let front = and_parts _ _ needs.0 in
      let numbers = and_parts _ _ front.1 in
      let hand = and_parts _ _ needs.1 in
      let is_spot = spot_is plan s i (placed_at is_plan keeps i within) in
      let fork : SeenFork = given_fork plan s state i in
      changed_at is_plan keeps i within _
      (Keeps-give (spot_at plan s i) state.phase state.ate state.has_quit (traffic_at state i).put (traffic_at state i).taken is_spot (keeps_at is_plan keeps i within)
      (eqb-true _ _ numbers.0) (eqb-true _ _ numbers.1) hand.0 (not-true _ hand.1) fork refl refl refl refl)
      (given_values i keeps within (eqb-true _ _ numbers.0))

  ask_keeps : (i : ℕ) → IsPlan plan → KeepsStreams plan s state → may plan s state (Ask i) ≡ true → KeepsStreams plan s (after plan s state (Ask i))
  ask_keeps i is_plan keeps h =
      let parts = and_parts _ _ h in
      let within : i < length state.traffic = ltb-true _ _ parts.0 in
      let needs = and_parts _ _ parts.1 in
      let front = and_parts _ _ needs.0 in
      let numbers = and_parts _ _ front.1 in
      changed_at is_plan keeps i within _
      (Keeps-ask (spot_at plan s i) state.phase state.ate state.has_quit (traffic_at state i).put (traffic_at state i).taken (keeps_at is_plan keeps i within)
      (eqb-true _ _ numbers.1) (eqb-true _ _ numbers.0) front.0 (not-true _ needs.1))
      (values-put plan s (edge_at plan s i) (traffic_at state i) (values_at keeps i within) (letter.Request (edge_at plan s i)) refl)

  done_keeps : (i : ℕ) → IsPlan plan → KeepsStreams plan s state → may plan s state (Done i) ≡ true → KeepsStreams plan s (after plan s state (Done i))
  done_keeps i is_plan keeps h =
      let parts = and_parts _ _ h in
      let within : i < length state.traffic = ltb-true _ _ parts.0 in
      let needs = and_parts _ _ parts.1 in
      let front = and_parts _ _ needs.0 in
      let marks = and_parts _ _ needs.1 in
      changed_at is_plan keeps i within _
      (Keeps-done (spot_at plan s i) state.phase state.ate state.has_quit (traffic_at state i).put (traffic_at state i).taken (keeps_at is_plan keeps i within)
      front.0 front.1 (not-true _ marks.0) (not-true _ marks.1))
      (values-put plan s (edge_at plan s i) (traffic_at state i) (values_at keeps i within) letter.Done refl)

  close_keeps : (i : ℕ) → IsPlan plan → KeepsStreams plan s state → i < length state.traffic → is_open plan s state i ≡ true → KeepsStreams plan s (with_put i letter.Close state)
  close_keeps i is_plan keeps within is_open =
      changed_at is_plan keeps i within _
      (Keeps-close (spot_at plan s i) state.phase state.ate state.has_quit (traffic_at state i).put (traffic_at state i).taken (keeps_at is_plan keeps i within) (not-true _ is_open))
      (values-put plan s (edge_at plan s i) (traffic_at state i) (values_at keeps i within) letter.Close refl)

  hungry_keeps : IsPlan plan → KeepsStreams plan s state → may plan s state Hungry ≡ true → KeepsStreams plan s (after plan s state Hungry)
  hungry_keeps is_plan keeps h =
      let parts = and_parts _ _ h in
      let left : state.ate < job_count plan s = ltb-true _ _ (and_parts _ _ parts.0).1 in
      let stays = and_parts _ _ parts.1 in
      let no_must : state.must_quit ≡ false = not-true _ stays.0 in
      let no_quit : state.has_quit ≡ false = not-true _ stays.1 in
      record {
        places = λ i within.
            let k = keeps_at is_plan keeps i within in
            Keeps-to plan s (record state { phase = phase.Hungry }) i (placed_at is_plan keeps i within)
            (Keeps-phase (spot_at plan s i) state.phase state.ate state.has_quit (traffic_at state i).put (traffic_at state i).taken phase.Hungry k (λ _. refl)
            (λ done _. absurd (ate_all left no_quit (k.puts.done_after_all done)))) (values_at keeps i within);
        every_place = keeps.every_place;
        ate_within = keeps.ate_within;
        hungry_has_left = λ _. left;
        eater_has_begun = λ e. absurd (false≢true e);
        must_drop = λ e. absurd (true≢false (sym e ∙ no_must));
        has_dropped = λ e. absurd (true≢false (sym e ∙ no_quit));
        quits_once = λ _. no_quit;
      }
    where
      ate_all : state.ate < job_count plan s → state.has_quit ≡ false → (state.ate == job_count plan s || state.has_quit) ≡ true → ⊥
      ate_all left no_quit all = elim (or_cases (state.ate == job_count plan s) state.has_quit all) [
        | inl is ↦ absurd (omega (arith, eqb-true state.ate (job_count plan s) is))
        | inr quit ↦ true≢false (sym quit ∙ no_quit)
      ]

  begin_keeps : IsPlan plan → KeepsStreams plan s state → may plan s state Begin ≡ true → KeepsStreams plan s (after plan s state Begin)
  begin_keeps is_plan keeps h =
      let parts = and_parts _ _ h in
      let left : state.ate < job_count plan s = keeps.hungry_has_left parts.0 in
      record {
        places = λ i within.
            let is_placed = placed_at is_plan keeps i within in
            let ready = list_all-range (is_ready plan s state) 0 (length state.traffic) i parts.1 within in
            Keeps-to plan s (record state { phase = phase.Eating; ate = state.ate + 1 }) i is_placed
            (Keeps-begin (spot_at plan s i) state.phase state.ate state.has_quit (traffic_at state i).put (traffic_at state i).taken (spot_is plan s i is_placed) phase.Eating (keeps_at is_plan keeps i within)
            parts.0 (fork_ready i (ap (is_ready plan s state) (sym (zero-add i)) ∙ ready)) left) (values_at keeps i within);
        every_place = keeps.every_place;
        ate_within = omega arith;
        hungry_has_left = λ e. absurd (false≢true e);
        eater_has_begun = λ _. omega arith;
        must_drop = λ e. absurd (hungry_not_thinking state.phase parts.0 (keeps.must_drop e).1);
        has_dropped = λ e. absurd (hungry_not_thinking state.phase parts.0 (keeps.has_dropped e).1);
        quits_once = keeps.quits_once;
      }
    where
      fork_ready : (i : ℕ) → is_ready plan s state i ≡ true → fork_at plan s state i ≡ 1
      fork_ready i ready = eqb-true _ _ (and_parts _ _ ready).0

  end_keeps : (failed : Bool) → IsPlan plan → KeepsStreams plan s state → may plan s state (End failed) ≡ true → KeepsStreams plan s (after plan s state (End failed))
  end_keeps failed is_plan keeps h = record {
    places = λ i within.
        let k = keeps_at is_plan keeps i within in
        Keeps-to plan s (after plan s state (End failed)) i (placed_at is_plan keeps i within)
        (Keeps-phase (spot_at plan s i) state.phase state.ate state.has_quit (traffic_at state i).put (traffic_at state i).taken phase.Thinking k (λ e. absurd (not_hungry_while_eating state.phase h e)) (λ _ _. refl)) (values_at keeps i within);
    every_place = keeps.every_place;
    ate_within = keeps.ate_within;
    hungry_has_left = λ e. absurd (false≢true e);
    eater_has_begun = λ e. absurd (false≢true e);
    must_drop = λ e. let parts = and_parts (failed && resigns plan s) (nat_lt state.ate (job_count plan s)) e in
        ((and_parts failed (resigns plan s) parts.0).1, refl, ltb-true state.ate (job_count plan s) parts.1);
    has_dropped = λ e. absurd (not_thinking_while_eating state.phase h (keeps.has_dropped e).1);
    quits_once = λ _. false_from_ne_true state.has_quit (λ e. not_thinking_while_eating state.phase h (keeps.has_dropped e).1);
  }

  quit_keeps : IsPlan plan → KeepsStreams plan s state → may plan s state Quit ≡ true → KeepsStreams plan s (after plan s state Quit)
  quit_keeps is_plan keeps h =
      let must : state.must_quit ≡ true = (and_parts (is_thinking state.phase) state.must_quit h).1 in
      record {
        places = λ i within.
            Keeps-to plan s (after plan s state Quit) i (placed_at is_plan keeps i within)
            (Keeps-quit (spot_at plan s i) state.phase state.ate state.has_quit (traffic_at state i).put (traffic_at state i).taken (keeps_at is_plan keeps i within)) (values_at keeps i within);
        every_place = keeps.every_place;
        ate_within = keeps.ate_within;
        hungry_has_left = keeps.hungry_has_left;
        eater_has_begun = keeps.eater_has_begun;
        must_drop = λ e. absurd (false≢true e);
        has_dropped = λ _. keeps.must_drop must;
        quits_once = λ e. absurd (false≢true e);
      }

  take_keeps : (i : ℕ) (l : Letter) → IsPlan plan → KeepsStreams plan s state → IsProper (Take i l) → may plan s state (Take i l) ≡ true → KeepsStreams plan s (after plan s state (Take i l))
  take_keeps i (letter.Fork fork) is_plan keeps is_proper h =
      let parts = and_parts _ _ h in
      let within : i < length state.traffic = ltb-true _ _ parts.0 in
      let letters = and_parts _ _ parts.1 in
      let allowed = and_parts _ _ letters.1 in
      let rest = and_parts _ _ allowed.0 in
      let log = and_parts _ _ rest.1 in
      let front = and_parts _ _ rest.0 in
      let numbers = and_parts _ _ front.1 in
      changed_at is_plan keeps i within _
      (Keeps-take_fork (spot_at plan s i) state.phase state.ate state.has_quit (traffic_at state i).put (traffic_at state i).taken (keeps_at is_plan keeps i within)
      (eqb-true _ _ numbers.0) (eqb-true _ _ numbers.1) (not-true _ letters.0) fork (front.0, is_proper) log.0 (eqb-true _ _ log.1))
      (values-take plan s (edge_at plan s i) (traffic_at state i) (values_at keeps i within) (letter.Fork fork))
  take_keeps i (letter.Request edge) is_plan keeps is_proper h =
      let parts = and_parts _ _ h in
      let within : i < length state.traffic = ltb-true _ _ parts.0 in
      let letters = and_parts _ _ parts.1 in
      let allowed = and_parts _ _ letters.1 in
      let front = and_parts _ _ allowed.0 in
      let numbers = and_parts _ _ front.1 in
      let rest = and_parts _ _ allowed.1 in
      changed_at is_plan keeps i within _
      (Keeps-take_request (spot_at plan s i) state.phase state.ate state.has_quit (traffic_at state i).put (traffic_at state i).taken (keeps_at is_plan keeps i within)
      (eqb-true _ _ numbers.1) (eqb-true _ _ numbers.0) (ltb-true _ _ rest.1) (not-true _ letters.0) (not-true _ rest.0) edge (eqb-true _ _ front.0))
      (values-take plan s (edge_at plan s i) (traffic_at state i) (values_at keeps i within) (letter.Request edge))
  take_keeps i letter.Done is_plan keeps is_proper h =
      let parts = and_parts _ _ h in
      let within : i < length state.traffic = ltb-true _ _ parts.0 in
      let letters = and_parts _ _ parts.1 in
      changed_at is_plan keeps i within _
      (Keeps-take_done (spot_at plan s i) state.phase state.ate state.has_quit (traffic_at state i).put (traffic_at state i).taken (keeps_at is_plan keeps i within)
      (not-true _ letters.0) (not-true _ (and_parts _ _ letters.1).0))
      (values-take plan s (edge_at plan s i) (traffic_at state i) (values_at keeps i within) letter.Done)
  take_keeps i letter.Close is_plan keeps is_proper h =
      let parts = and_parts _ _ h in
      let within : i < length state.traffic = ltb-true _ _ parts.0 in
      let letters = and_parts _ _ parts.1 in
      let done = and_parts _ _ letters.1 in
      changed_at is_plan keeps i within _
      (Keeps-take_close (spot_at plan s i) state.phase state.ate state.has_quit (traffic_at state i).put (traffic_at state i).taken (keeps_at is_plan keeps i within)
      (not-true _ letters.0) done.0 done.1)
      (values-take plan s (edge_at plan s i) (traffic_at state i) (values_at keeps i within) letter.Close)

  after_keeps : (step : Step) → IsPlan plan → KeepsStreams plan s state → IsProper step → may plan s state step ≡ true → KeepsStreams plan s (after plan s state step)
  after_keeps (Give i) is_plan keeps is_proper h = give_keeps i is_plan keeps h
  after_keeps (Ask i) is_plan keeps is_proper h = ask_keeps i is_plan keeps h
  after_keeps Hungry is_plan keeps is_proper h = hungry_keeps is_plan keeps h
  after_keeps Begin is_plan keeps is_proper h = begin_keeps is_plan keeps h
  after_keeps (End failed) is_plan keeps is_proper h = end_keeps failed is_plan keeps h
  after_keeps Quit is_plan keeps is_proper h = quit_keeps is_plan keeps h
  after_keeps (Done i) is_plan keeps is_proper h = done_keeps i is_plan keeps h
  after_keeps (Close i) is_plan keeps is_proper h =
      let parts = and_parts _ _ h in
      close_keeps i is_plan keeps (ltb-true _ _ parts.0) (and_parts _ _ parts.1).1
  after_keeps (Break i) is_plan keeps is_proper h =
      let parts = and_parts _ _ h in
      close_keeps i is_plan keeps (ltb-true _ _ parts.0) (and_parts _ _ parts.1).1
  after_keeps (Take i l) is_plan keeps is_proper h = take_keeps i l is_plan keeps is_proper h

pub step_keeps : (plan : SeenPlan) (s : ℕ) → IsPlan plan → s < site_count plan → (state new : LocalState) (step : Step)
    → KeepsStreams plan s state → IsProper step → LocalStep plan s state step new → KeepsStreams plan s new
step_keeps plan s is_plan within state new step keeps is_proper stepped =
    subst (KeepsStreams plan s) (sym stepped.changes) (after_keeps plan s state step is_plan keeps is_proper stepped.needs)
