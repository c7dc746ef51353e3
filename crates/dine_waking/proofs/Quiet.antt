-- A site that can do nothing by itself and to which no letter comes may do no step, and neither may one that has
-- finished.
use Rattle.std.proofs.Common.{◌≡◌, ℕ, zero, suc, ◌+◌, ◌<◌, ◌==◌, nat_lt, Bool, true, false, not, ◌&&◌, List, [], ◌∷◌, ◌++◌, length, map, drop, slice_get, Option, Some, None, refl, sym, ◌∙◌, ap, inl, inr, arith, add-zero}
use Rattle.std.specs.List.{find, list_all, range_with_len}
use Rattle.std.specs.Option.{option_map, option_or}
use Rattle.std.proofs.lemmas.Bool.{and_parts, cases_Bool, cond-true, cond-false, eqb-true, false_from_ne_true, ltb-true, not-true, or_cases, true≢false, false≢true}
use Rattle.std.proofs.lemmas.List.Folds.{find-append}
use Rattle.dine_token.specs.Log.{is_dirty}
use Rattle.dine_graph.specs.Plan.{SeenPlan, edges_of, job_count}
use Rattle.dine_rules.specs.declared.events.EventKind.{EventKind}
use Rattle.dine_rules.specs.declared.events.EventKind.TheVariants as event
use Rattle.dine_rules.specs.declared.letters.Letter.{Letter}
use Rattle.dine_rules.specs.declared.phase.Phase.{Phase}
use Rattle.dine_rules.specs.declared.phase.Phase.TheVariants as phase
use Rattle.dine_rules.specs.Holdings.{fork_at, hand_at, token_at}
use Rattle.dine_rules.specs.Letters.{has_close, has_done}
use Rattle.dine_rules.specs.Links.{queue_to}
use Rattle.dine_rules.specs.Local.{LocalState, has_no_job_left, is_eating, is_hungry, is_thinking, traffic_at}
use Rattle.dine_rules.specs.Steps.{Step, may}
use Rattle.dine_rules.specs.Steps as step
use Rattle.dine_rules.specs.Streams.{KeepsStreams}
use Rattle.dine_rules.specs.World.{WorldState, next_letter, placeless_kinds, put_to, state_of}
use Rattle.dine_rules.proofs.shared.counting.Enabled.{IsStill}
use Rattle.dine_site.specs.NextEvent.{may_by_itself, next_event}
use Rattle.dine_site.specs.Standing.{all_places, has_finished}
use Rattle.dine_site.proofs.shared.own_events.NextEvents.{find-map}

-- ---- nothing is found

either_none : {X : Type 0} (o p : Option X) → option_or o p ≡ None → (o ≡ None) × (p ≡ None)
either_none None p h = (refl, h)
either_none (Some x) p h = absurd (let e : Some x ≡ None = h in cc)

-- nothing is found in the front, nor behind it
none_split : {X : Type 0} (test : X → Bool) (xs ys : List X) → find test (xs ++ ys) ≡ None → (find test xs ≡ None) × (find test ys ≡ None)
none_split test xs ys none = either_none (find test xs) (find test ys) (sym (find-append test xs ys) ∙ none)

none_first : {X : Type 0} (test : X → Bool) (x : X) (xs : List X) → find test (x ∷ xs) ≡ None → (test x ≡ false) × (find test xs ≡ None)
none_first test x xs none = elim (cases_Bool (test x)) [
  | inl passes ↦ absurd (let e : Some x ≡ None = sym (cond-true (test x) (Some x) (find test xs) passes) ∙ none in cc)
  | inr fails ↦ (fails, sym (cond-false (test x) (Some x) (find test xs) fails) ∙ none)
]

none_in_range : (test : ℕ → Bool) (a n i : ℕ) → find test (range_with_len a n) ≡ None → i < n → test (a + i) ≡ false
none_in_range test a zero i none h = absurd (omega arith)
none_in_range test a (suc n) zero none h = ap test (add-zero a) ∙ (none_first test a (range_with_len (a + 1) n) none).0
none_in_range test a (suc n) (suc i) none h =
    let same : a + suc i ≡ a + 1 + i = omega arith in
    ap test same ∙ none_in_range test (a + 1) n i (none_first test a (range_with_len (a + 1) n) none).1 (omega arith)

none_mapped : {X : Type 0} (kind : ℕ → X) (test : X → Bool) (n i : ℕ) → find test (map kind (range_with_len 0 n)) ≡ None → i < n → test (kind i) ≡ false
none_mapped kind test n i none h =
    let here : i ≡ 0 + i = omega arith in
    ap (λ (k : ℕ). test (kind k)) here ∙ none_in_range (λ k. test (kind k)) 0 n i (unmapped (find (λ k. test (kind k)) (range_with_len 0 n)) (sym (find-map kind test (range_with_len 0 n)) ∙ none)) h
  where
    unmapped : (o : Option ℕ) → option_map kind o ≡ None → o ≡ None
    unmapped None h = refl
    unmapped (Some k) h = absurd (let e : Some (kind k) ≡ None = h in cc)

-- ---- the next letter of a list that is taken in order

pub next_is_first : (xs : List Letter) (n : ℕ) (l : Letter) → slice_get xs n ≡ Some l → (rest : List Letter) × (drop n xs ≡ l ∷ rest)
next_is_first [] n l h = absurd (let e : None ≡ Some l = h in cc)
next_is_first (x ∷ xs) zero l h = (xs, let e : Some x ≡ Some l = h in cc)
next_is_first (x ∷ xs) (suc n) l h = next_is_first xs n l h

pub first_is_next : (xs : List Letter) (n : ℕ) (l : Letter) (rest : List Letter) → drop n xs ≡ l ∷ rest → (slice_get xs n ≡ Some l) × (drop (n + 1) xs ≡ rest)
first_is_next [] zero l rest h = absurd (let e : [] ≡ l ∷ rest = h in cc)
first_is_next [] (suc n) l rest h = absurd (let e : [] ≡ l ∷ rest = h in cc)
first_is_next (x ∷ xs) zero l rest h = (let e : x ∷ xs ≡ l ∷ rest = h in cc, let e : x ∷ xs ≡ l ∷ rest = h in cc)
first_is_next (x ∷ xs) (suc n) l rest h =
    let more : suc n + 1 ≡ suc (n + 1) = omega arith in
    let w = first_is_next xs n l rest h in
    (w.0, ap (λ (k : ℕ). drop k (x ∷ xs)) more ∙ w.1)

-- ---- a site that can do nothing by itself

-- the site may do none of these steps
pub record IsIdle (plan : SeenPlan) (s : ℕ) (state : LocalState) : Type 0 where
  pub give : (i : ℕ) → i < length state.traffic → may plan s state (step.Give i) ≡ false
  pub ends : is_eating state.phase ≡ false
  pub begins : may plan s state step.Begin ≡ false
  pub quits : may plan s state step.Quit ≡ false
  pub hungers : may plan s state step.Hungry ≡ false
  pub ask : (i : ℕ) → i < length state.traffic → may plan s state (step.Ask i) ≡ false
  pub done : (i : ℕ) → i < length state.traffic → may plan s state (step.Done i) ≡ false
  pub close : (i : ℕ) → i < length state.traffic → may plan s state (step.Close i) ≡ false

module _ (plan : SeenPlan) (s : ℕ) (state : LocalState) where
  abbrev test : EventKind → Bool
  test = may_by_itself plan s state

  abbrev places : List ℕ
  places = all_places state

  pub is_idle : next_event plan s state ≡ None → IsIdle plan s state
  is_idle idle =
      let a = none_split test (map event.Give places ++ placeless_kinds ++ map event.Ask places ++ map event.Done places) (map event.Close places) idle in
      let b = none_split test (map event.Give places ++ placeless_kinds ++ map event.Ask places) (map event.Done places) a.0 in
      let c = none_split test (map event.Give places ++ placeless_kinds) (map event.Ask places) b.0 in
      let d = none_split test (map event.Give places) placeless_kinds c.0 in
      let ends = none_first test event.End (event.Begin ∷ event.Quit ∷ event.Hungry ∷ []) d.1 in
      let begins = none_first test event.Begin (event.Quit ∷ event.Hungry ∷ []) ends.1 in
      let quits = none_first test event.Quit (event.Hungry ∷ []) begins.1 in
      let hungers = none_first test event.Hungry [] quits.1 in
      record {
        give = λ i within. none_mapped event.Give test (length state.traffic) i d.0 within;
        ends = ends.0;
        begins = begins.0;
        quits = quits.0;
        hungers = hungers.0;
        ask = λ i within. none_mapped event.Ask test (length state.traffic) i c.1 within;
        done = λ i within. none_mapped event.Done test (length state.traffic) i b.1 within;
        close = λ i within. none_mapped event.Close test (length state.traffic) i a.1 within;
      }

-- ---- a site that has finished

all_pass : (test : ℕ → Bool) (a n i : ℕ) → list_all test (range_with_len a n) ≡ true → i < n → test (a + i) ≡ true
all_pass test a zero i all h = absurd (omega arith)
all_pass test a (suc n) zero all h = ap test (add-zero a) ∙ (and_parts (test a) (list_all test (range_with_len (a + 1) n)) all).0
all_pass test a (suc n) (suc i) all h =
    let same : a + suc i ≡ a + 1 + i = omega arith in
    ap test same ∙ all_pass test (a + 1) n i (and_parts (test a) (list_all test (range_with_len (a + 1) n)) all).1 (omega arith)

thinks_alone : (p : Phase) → is_thinking p ≡ true → (is_eating p ≡ false) × (is_hungry p ≡ false)
thinks_alone phase.Thinking h = (refl, refl)
thinks_alone phase.Hungry h = absurd (false≢true h)
thinks_alone phase.Eating h = absurd (false≢true h)

-- what has been said at a place
pub record IsOver (state : LocalState) (i : ℕ) : Type 0 where
  pub done_put : has_done (traffic_at state i).put ≡ true
  pub done_taken : has_done (traffic_at state i).taken ≡ true
  pub close_put : has_close (traffic_at state i).put ≡ true
  pub close_taken : has_close (traffic_at state i).taken ≡ true

pub record HasFinished (plan : SeenPlan) (s : ℕ) (state : LocalState) : Type 0 where
  pub thinks : is_thinking state.phase ≡ true
  pub none_left : has_no_job_left plan s state ≡ true
  pub over : (i : ℕ) → i < length state.traffic → IsOver state i

module _ (plan : SeenPlan) (s : ℕ) (state : LocalState) where
  pub finished_parts : has_finished plan s state ≡ true → HasFinished plan s state
  finished_parts h =
      let over_test : ℕ → Bool = λ i. has_done (traffic_at state i).put && has_done (traffic_at state i).taken && has_close (traffic_at state i).put && has_close (traffic_at state i).taken in
      let parts = and_parts (is_thinking state.phase && has_no_job_left plan s state) (list_all over_test (all_places state)) h in
      let first = and_parts (is_thinking state.phase) (has_no_job_left plan s state) parts.0 in
      record {
        thinks = first.0;
        none_left = first.1;
        over = λ i within.
            let here : i ≡ 0 + i = omega arith in
            let all : over_test i ≡ true = ap over_test here ∙ all_pass over_test 0 (length state.traffic) i parts.1 within in
            let last = and_parts (has_done (traffic_at state i).put && has_done (traffic_at state i).taken && has_close (traffic_at state i).put) (has_close (traffic_at state i).taken) all in
            let third = and_parts (has_done (traffic_at state i).put && has_done (traffic_at state i).taken) (has_close (traffic_at state i).put) last.0 in
            let second = and_parts (has_done (traffic_at state i).put) (has_done (traffic_at state i).taken) third.0 in
            record { done_put = second.0; done_taken = second.1; close_put = third.1; close_taken = last.1 };
      }

  module _ (keeps : KeepsStreams plan s state) (finished : HasFinished plan s state) where
    closed : (i : ℕ) → i < length state.traffic → not (has_close (traffic_at state i).put) ≡ true → ⊥
    closed i within is_open = true≢false (sym (finished.over i within).close_put ∙ not-true (has_close (traffic_at state i).put) is_open)

    none_due : state.ate < job_count plan s → state.has_quit ≡ false → ⊥
    none_due left stays = elim (or_cases (state.ate == job_count plan s) state.has_quit finished.none_left) [
      | inl all ↦ absurd (omega (arith, eqb-true state.ate (job_count plan s) all))
      | inr quit ↦ true≢false (sym quit ∙ stays)
    ]

    -- no step at an open place
    no_give : (i : ℕ) → i < length state.traffic → may plan s state (step.Give i) ≡ true → ⊥
    no_give i within h =
        let needs = and_parts (nat_lt i (length state.traffic)) _ h in
        let last = and_parts (not (is_eating state.phase) && (fork_at plan s state i == 1 && token_at plan s state i == 1)) _ needs.1 in
        closed i within (and_parts (is_dirty (hand_at s state i)) _ last.1).1

    no_ask : (i : ℕ) → i < length state.traffic → may plan s state (step.Ask i) ≡ true → ⊥
    no_ask i within h = closed i within (and_parts _ _ (and_parts _ _ h).1).1

    no_done : (i : ℕ) → i < length state.traffic → may plan s state (step.Done i) ≡ true → ⊥
    no_done i within h =
        let needs = and_parts (nat_lt i (length state.traffic)) _ h in
        let last = and_parts (is_thinking state.phase && has_no_job_left plan s state) _ needs.1 in
        closed i within (and_parts (not (has_done (traffic_at state i).put)) _ last.1).1

    no_close : (i : ℕ) → i < length state.traffic → may plan s state (step.Close i) ≡ true → ⊥
    no_close i within h = closed i within (and_parts _ _ (and_parts _ _ h).1).1

    no_hunger : may plan s state step.Hungry ≡ true → ⊥
    no_hunger h =
        let parts = and_parts (is_thinking state.phase && nat_lt state.ate (job_count plan s)) (not state.must_quit && not state.has_quit) h in
        none_due (ltb-true state.ate (job_count plan s) (and_parts (is_thinking state.phase) (nat_lt state.ate (job_count plan s)) parts.0).1)
        (not-true state.has_quit (and_parts (not state.must_quit) (not state.has_quit) parts.1).1)

    no_quit : may plan s state step.Quit ≡ true → ⊥
    no_quit h =
        let must : state.must_quit ≡ true = (and_parts (is_thinking state.phase) state.must_quit h).1 in
        none_due (keeps.must_drop must).2 (keeps.quits_once must)

    no_begin : may plan s state step.Begin ≡ true → ⊥
    no_begin h = true≢false (sym (and_parts _ _ h).0 ∙ (thinks_alone state.phase finished.thinks).1)

    -- after a Close no letter is taken
    no_take : (i : ℕ) (l : Letter) → may plan s state (step.Take i l) ≡ true → ⊥
    no_take i l h =
        let parts = and_parts (nat_lt i (length state.traffic)) _ h in
        true≢false (sym (finished.over i (ltb-true i (length state.traffic) parts.0)).close_taken ∙ not-true (has_close (traffic_at state i).taken) (and_parts _ _ parts.1).0)

    pub finished_idle : IsIdle plan s state
    finished_idle = record {
      give = λ i within. false_from_ne_true (may plan s state (step.Give i)) (no_give i within);
      ends = (thinks_alone state.phase finished.thinks).0;
      begins = false_from_ne_true (may plan s state step.Begin) no_begin;
      quits = false_from_ne_true (may plan s state step.Quit) no_quit;
      hungers = false_from_ne_true (may plan s state step.Hungry) no_hunger;
      ask = λ i within. false_from_ne_true (may plan s state (step.Ask i)) (no_ask i within);
      done = λ i within. false_from_ne_true (may plan s state (step.Done i)) (no_done i within);
      close = λ i within. false_from_ne_true (may plan s state (step.Close i)) (no_close i within);
    }

    pub finished_takes_none : (i : ℕ) (l : Letter) → may plan s state (step.Take i l) ≡ false
    finished_takes_none i l = false_from_ne_true (may plan s state (step.Take i l)) (no_take i l)

-- ---- the site in its world

module _ (plan : SeenPlan) (world : WorldState) (s : ℕ) (keeps : KeepsStreams plan s (state_of world s)) where
  place_of_state : (i : ℕ) → i < length (edges_of plan s) → i < length (state_of world s).traffic
  place_of_state i within = omega (arith, keeps.every_place)

  still_if_idle : IsIdle plan s (state_of world s) → ((i : ℕ) (l : Letter) → i < length (edges_of plan s) → next_letter plan world s i ≡ Some l → may plan s (state_of world s) (step.Take i l) ≡ false) → IsStill plan world s
  still_if_idle idle take = record {
    take = take;
    give = λ i within. idle.give i (place_of_state i within);
    ends = idle.ends;
    begins = idle.begins;
    quits = idle.quits;
    hungers = idle.hungers;
    ask = λ i within. idle.ask i (place_of_state i within);
    done = λ i within. idle.done i (place_of_state i within);
    close = λ i within. idle.close i (place_of_state i within);
  }

  pub still_finished : has_finished plan s (state_of world s) ≡ true → IsStill plan world s
  still_finished h =
      let finished = finished_parts plan s (state_of world s) h in
      still_if_idle (finished_idle plan s (state_of world s) keeps finished) (λ i l within next. finished_takes_none plan s (state_of world s) keeps finished i l)

  pub still_quiet : next_event plan s (state_of world s) ≡ None → ((i : ℕ) → i < length (edges_of plan s) → queue_to plan world s i ≡ []) → IsStill plan world s
  still_quiet idle empty = still_if_idle (is_idle plan s (state_of world s) idle) (λ i l within next.
      let w = next_is_first (put_to plan world s i) (length (traffic_at (state_of world s) i).taken) l next in
      absurd (let e : l ∷ w.0 ≡ [] = sym w.1 ∙ empty i within in cc))
