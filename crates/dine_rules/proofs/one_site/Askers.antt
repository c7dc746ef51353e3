-- Steps of a site in a row: an asker waits for one meal at most.
use Rattle.std.proofs.Common.{◌≡◌, ◌⊎◌, ℕ, suc, ◌+◌, ◌-◌, ◌<◌, ◌≤◌, true, false, cond, not, ◌||◌, ◌==◌, List, [], ◌∷◌, ◌++◌, length, get_or, slice_set, refl, sym, ◌∙◌, ap, subst, inl, inr, arith, zero-add}
use Rattle.std.specs.List.{list_any}
use Rattle.std.proofs.lemmas.Bool.{true≢false, and_parts, or_parts, or_cases, not-true, cases_eq, eqb-true, eqb-false, ltb-true}
use Rattle.std.proofs.lemmas.List.{get_or-set_same, get_or-set_other, length-set}
use Rattle.dine_token.specs.declared.log_entry.Entry.{Entry}
use Rattle.dine_token.specs.Log.{is_dirty, meals_of}
use Rattle.dine_token.proofs.shared.Logs.{is_dirty-push_meal}
use Rattle.dine_graph.specs.Plan.{SeenPlan, edges_of, lo_of, hi_of}
use Rattle.dine_rules.specs.declared.letters.Letter.{Letter}
use Rattle.dine_rules.specs.declared.letters.Letter.TheVariants as letter
use Rattle.dine_rules.specs.Letters.{forks_in, requests_in, last_log_or}
use Rattle.dine_rules.specs.Local.{LocalState, Traffic, no_traffic, traffic_at, start_of, edge_at}
use Rattle.dine_rules.specs.Holdings.{forks_held, tokens_held, fork_at, token_at, hand_at, with_meals_to}
use Rattle.dine_rules.specs.Steps.{Step, Give, Ask, Hungry, Begin, End, Quit, Done, Close, Break, Take, IsPlaceWithin, after, may, is_ready, with_put}
use Rattle.dine_rules.specs.StepLists.{LeadTo, begins_in, is_give_at}
use Rattle.dine_rules.proofs.shared.lists.Counting.{none_is_not_one, forks_in-append, requests_in-append, last_log_or-append}
use Rattle.dine_rules.proofs.shared.one_place.Hands.{hand-more}
use Rattle.dine_rules.proofs.shared.one_site.Site.{no_traffic_yet}
use Rattle.dine_rules.proofs.shared.one_site.Shapes.{by_moves, may_within, moved, step_shape}
use Rattle.dine_rules.proofs.shared.one_site.SiteSteps.{list_all-range}

-- ---- the meals in what was taken

module _ (plan : SeenPlan) (s : ℕ) where
  -- the last Fork taken at each place has no meal of the site that it did not eat
  abbrev IsWithin : LocalState → Type 0
  IsWithin state = (i : ℕ) → meals_of s (last_log_or [] (traffic_at state i).taken) ≤ state.ate

  -- one place changes
  within_set : (state : LocalState) (j : ℕ) (traffic : Traffic) → IsWithin state → j < length state.traffic → meals_of s (last_log_or [] traffic.taken) ≤ state.ate
      → IsWithin (record state { traffic = slice_set state.traffic j traffic })
  within_set state j traffic few within here i = elim (cases_eq i j) [
    | inl same ↦ subst (λ (t : Traffic). meals_of s (last_log_or [] t.taken) ≤ state.ate) (sym (ap (λ (k : ℕ). get_or (slice_set state.traffic j traffic) k no_traffic) same ∙ get_or-set_same state.traffic j traffic no_traffic within)) here
    | inr other ↦ subst (λ (t : Traffic). meals_of s (last_log_or [] t.taken) ≤ state.ate) (sym (get_or-set_other state.traffic j i traffic no_traffic other)) (few i)
  ]

  -- a letter without a log is taken
  within_taken : (state : LocalState) (j : ℕ) (l : Letter) → ((log : List Entry) → last_log_or log (l ∷ []) ≡ log) → IsWithin state → meals_of s (last_log_or [] ((traffic_at state j).taken ++ l ∷ [])) ≤ state.ate
  within_taken state j l no_log few = subst (λ (log : List Entry). meals_of s log ≤ state.ate) (sym (last_log_or-append [] (traffic_at state j).taken (l ∷ []) ∙ no_log (last_log_or [] (traffic_at state j).taken))) (few j)

  step_within : (state : LocalState) (step : Step) → IsWithin state → may plan s state step ≡ true → IsWithin (after plan s state step)
  step_within state (Take j (letter.Fork fork)) few h =
      let parts = and_parts _ _ h in
      let allowed = and_parts _ _ (and_parts _ _ parts.1).1 in
      let all : meals_of s fork.log ≡ state.ate = eqb-true _ _ (and_parts _ _ (and_parts _ _ allowed.0).1).1 in
      let last : last_log_or [] ((traffic_at state j).taken ++ letter.Fork fork ∷ []) ≡ fork.log = last_log_or-append [] (traffic_at state j).taken (letter.Fork fork ∷ []) in
      within_set state j _ few (ltb-true _ _ parts.0) (subst (λ (log : List Entry). meals_of s log ≤ state.ate) (sym last) (omega arith))
  step_within state (Take j (letter.Request edge)) few h = within_set state j _ few (ltb-true _ _ (and_parts _ _ h).0) (within_taken state j (letter.Request edge) (λ log. refl) few)
  step_within state (Take j letter.Done) few h = within_set state j _ few (ltb-true _ _ (and_parts _ _ h).0) (within_taken state j letter.Done (λ log. refl) few)
  step_within state (Take j letter.Close) few h = within_set state j _ few (ltb-true _ _ (and_parts _ _ h).0) (within_taken state j letter.Close (λ log. refl) few)
  step_within state Hungry few h = few
  step_within state Begin few h = λ i. omega (arith, few i)
  step_within state (End failed) few h = few
  step_within state Quit few h = few
  step_within state step few h = by_moves plan s state IsWithin (step_shape step) (after plan s state step) (moved plan s state step)
      (λ j l is. within_set state j _ few (subst (IsPlaceWithin (length state.traffic)) is (may_within plan s state step h)) (few j))
      (λ j l is. absurd cc) (λ same is. absurd cc)

  -- steps in a row
  steps_within : (state new : LocalState) (steps : List Step) → IsWithin state → LeadTo plan s state steps new → IsWithin new
  steps_within state new [] few run = subst IsWithin run few
  steps_within state new (step ∷ steps) few run = steps_within (after plan s state step) new steps (step_within state step few run.0) run.1

  -- from the start on
  reached_within : (new : LocalState) (steps : List Step) → LeadTo plan s (start_of plan s) steps new → IsWithin new
  reached_within new steps run = steps_within (start_of plan s) new steps
      (λ i. subst (λ (t : Traffic). meals_of s (last_log_or [] t.taken) ≤ 0) (sym (no_traffic_yet (edges_of plan s) i)) (omega arith)) run

-- ---- the asker

-- a step begins a meal or does not
pub begin_or_not : (step : Step) → (step ≡ Begin) ⊎ ((step ≡ Begin → ⊥) × ((steps : List Step) → begins_in (step ∷ steps) ≡ begins_in steps))
begin_or_not Begin = inl refl
begin_or_not step = inr (λ h. cc, λ steps. refl)

module _ (plan : SeenPlan) (s i : ℕ) where
  -- the fork is held and asked for, and the last log taken has no meal that was not eaten
  pub record IsAsked (state : LocalState) : Type 0 where
    pub within : i < length state.traffic
    pub one_fork : fork_at plan s state i ≡ 1
    pub one_token : token_at plan s state i ≡ 1
    pub last_within : meals_of s (last_log_or [] (traffic_at state i).taken) ≤ state.ate

  -- the same holdings and the same last log taken
  record IsSame (old new : Traffic) : Type 0 where
    forks : forks_held plan s (edge_at plan s i) new ≡ forks_held plan s (edge_at plan s i) old
    tokens : tokens_held plan s (edge_at plan s i) new ≡ tokens_held plan s (edge_at plan s i) old
    last : last_log_or [] new.taken ≡ last_log_or [] old.taken

  IsSame-refl : (traffic : Traffic) → IsSame traffic traffic
  IsSame-refl traffic = record { forks = refl; tokens = refl; last = refl }

  -- Done and Close change nothing of these
  IsSame-put : (traffic : Traffic) (l : Letter) → forks_in (l ∷ []) ≡ 0 → requests_in (l ∷ []) ≡ 0 → IsSame traffic (record traffic { put = traffic.put ++ l ∷ [] })
  IsSame-put traffic l no_fork no_request =
      let forks : forks_in (traffic.put ++ l ∷ []) ≡ forks_in traffic.put = omega (arith, forks_in-append traffic.put (l ∷ [])) in
      let requests : requests_in (traffic.put ++ l ∷ []) ≡ requests_in traffic.put = omega (arith, requests_in-append traffic.put (l ∷ [])) in
      record {
        forks = ap (λ (n : ℕ). cond (lo_of plan (edge_at plan s i) == s) 1 0 + forks_in traffic.taken - n) forks;
        tokens = ap (λ (n : ℕ). cond (hi_of plan (edge_at plan s i) == s) 1 0 + requests_in traffic.taken - n) requests;
        last = refl;
      }

  IsSame-taken : (traffic : Traffic) (l : Letter) → forks_in (l ∷ []) ≡ 0 → requests_in (l ∷ []) ≡ 0 → ((log : List Entry) → last_log_or log (l ∷ []) ≡ log) → IsSame traffic (record traffic { taken = traffic.taken ++ l ∷ [] })
  IsSame-taken traffic l no_fork no_request no_log =
      let forks : forks_in (traffic.taken ++ l ∷ []) ≡ forks_in traffic.taken = omega (arith, forks_in-append traffic.taken (l ∷ [])) in
      let requests : requests_in (traffic.taken ++ l ∷ []) ≡ requests_in traffic.taken = omega (arith, requests_in-append traffic.taken (l ∷ [])) in
      record {
        forks = ap (λ (n : ℕ). cond (lo_of plan (edge_at plan s i) == s) 1 0 + n - forks_in traffic.put) forks;
        tokens = ap (λ (n : ℕ). cond (hi_of plan (edge_at plan s i) == s) 1 0 + n - requests_in traffic.put) requests;
        last = last_log_or-append [] traffic.taken (l ∷ []) ∙ no_log (last_log_or [] traffic.taken);
      }

  -- a place that changes is another one, or stays the same in this
  IsSame-set : (traffics : List Traffic) (j : ℕ) (traffic : Traffic) → j < length traffics → (j ≡ i → IsSame (get_or traffics j no_traffic) traffic) → IsSame (get_or traffics i no_traffic) (get_or (slice_set traffics j traffic) i no_traffic)
  IsSame-set traffics j traffic within here = elim (cases_eq i j) [
    | inl same ↦ subst (λ (k : ℕ). IsSame (get_or traffics k no_traffic) (get_or (slice_set traffics j traffic) k no_traffic)) (sym same)
        (subst (IsSame (get_or traffics j no_traffic)) (sym (get_or-set_same traffics j traffic no_traffic within)) (here (sym same)))
    | inr other ↦ subst (IsSame (get_or traffics i no_traffic)) (sym (get_or-set_other traffics j i traffic no_traffic other)) (IsSame-refl (get_or traffics i no_traffic))
  ]

  -- a step that begins no meal leaves the hand as it is
  pub record Waits (old new : LocalState) : Type 0 where
    pub asked : IsAsked new
    pub same_hand : hand_at s new i ≡ hand_at s old i

  waits_from : (old new : LocalState) → IsAsked old → length new.traffic ≡ length old.traffic → new.ate ≡ old.ate → IsSame (traffic_at old i) (traffic_at new i) → Waits old new
  waits_from old new asked long ate same =
      let meals : meals_of s (last_log_or [] (traffic_at new i).taken) ≡ meals_of s (last_log_or [] (traffic_at old i).taken) = ap (λ (l : List Entry). meals_of s l) same.last in
      record {
        asked = record {
          within = omega (arith, asked.within);
          one_fork = same.forks ∙ asked.one_fork;
          one_token = same.tokens ∙ asked.one_token;
          last_within = omega (arith, asked.last_within);
        };
        same_hand = ap (λ (n : ℕ). with_meals_to s n (last_log_or [] (traffic_at new i).taken)) ate ∙ ap (λ (l : List Entry). with_meals_to s old.ate l) same.last;
      }

  -- a place that is given or asked at is another one, with a number that differs from that here
  not_here : {P : Type 0} (state : LocalState) (j : ℕ) (number : LocalState → ℕ → ℕ) (n m : ℕ) → number state i ≡ n → number state j ≡ m → (n ≡ m → ⊥) → j ≡ i → P
  not_here state j number n m here there differs same = absurd (differs (sym here ∙ ap (number state) (sym same) ∙ there))

  set_waits : (state : LocalState) (j : ℕ) (traffic : Traffic) → IsAsked state → j < length state.traffic → (j ≡ i → IsSame (traffic_at state j) traffic) → Waits state (record state { traffic = slice_set state.traffic j traffic })
  set_waits state j traffic asked within here = waits_from state (record state { traffic = slice_set state.traffic j traffic }) asked (length-set state.traffic j traffic) refl (IsSame-set state.traffic j traffic within here)

  step_waits : (state : LocalState) (step : Step) → IsAsked state → may plan s state step ≡ true → is_give_at i step ≡ false → (step ≡ Begin → ⊥) → Waits state (after plan s state step)
  step_waits state (Give j) asked h no_give no_begin =
      set_waits state j _ asked (ltb-true _ _ (and_parts _ _ h).0) (λ same. absurd (eqb-false j i no_give same))
  step_waits state (Ask j) asked h no_give no_begin =
      let parts = and_parts _ _ h in
      let numbers = and_parts _ _ (and_parts _ _ (and_parts _ _ parts.1).0).1 in
      let none : fork_at plan s state j ≡ 0 = eqb-true _ _ numbers.1 in
      set_waits state j _ asked (ltb-true _ _ parts.0) (not_here state j (fork_at plan s) 1 0 asked.one_fork none (λ e. omega arith))
  step_waits state Hungry asked h no_give no_begin = waits_from state _ asked refl refl (IsSame-refl (traffic_at state i))
  step_waits state Begin asked h no_give no_begin = absurd (no_begin refl)
  step_waits state Quit asked h no_give no_begin = waits_from state _ asked refl refl (IsSame-refl (traffic_at state i))
  step_waits state (End failed) asked h no_give no_begin = waits_from state _ asked refl refl (IsSame-refl (traffic_at state i))
  step_waits state (Done j) asked h no_give no_begin =
      set_waits state j _ asked (ltb-true _ _ (and_parts _ _ h).0) (λ same. IsSame-put (traffic_at state j) letter.Done refl refl)
  step_waits state (Close j) asked h no_give no_begin =
      set_waits state j _ asked (ltb-true _ _ (and_parts _ _ h).0) (λ same. IsSame-put (traffic_at state j) letter.Close refl refl)
  step_waits state (Break j) asked h no_give no_begin =
      set_waits state j _ asked (ltb-true _ _ (and_parts _ _ h).0) (λ same. IsSame-put (traffic_at state j) letter.Close refl refl)
  step_waits state (Take j (letter.Fork fork)) asked h no_give no_begin =
      let parts = and_parts _ _ h in
      let allowed = and_parts _ _ (and_parts _ _ parts.1).1 in
      let numbers = and_parts _ _ (and_parts _ _ (and_parts _ _ allowed.0).0).1 in
      let none : fork_at plan s state j ≡ 0 = eqb-true _ _ numbers.0 in
      set_waits state j _ asked (ltb-true _ _ parts.0) (not_here state j (fork_at plan s) 1 0 asked.one_fork none (λ e. omega arith))
  step_waits state (Take j (letter.Request edge)) asked h no_give no_begin =
      let parts = and_parts _ _ h in
      let allowed = and_parts _ _ (and_parts _ _ parts.1).1 in
      let numbers = and_parts _ _ (and_parts _ _ allowed.0).1 in
      let none : token_at plan s state j ≡ 0 = eqb-true _ _ numbers.0 in
      set_waits state j _ asked (ltb-true _ _ parts.0) (not_here state j (token_at plan s) 1 0 asked.one_token none (λ e. omega arith))
  step_waits state (Take j letter.Done) asked h no_give no_begin =
      set_waits state j _ asked (ltb-true _ _ (and_parts _ _ h).0) (λ same. IsSame-taken (traffic_at state j) letter.Done refl refl (λ log. refl))
  step_waits state (Take j letter.Close) asked h no_give no_begin =
      set_waits state j _ asked (ltb-true _ _ (and_parts _ _ h).0) (λ same. IsSame-taken (traffic_at state j) letter.Close refl refl (λ log. refl))

  -- a meal begins with a clean hand only, and leaves it dirty
  begin_clean : (state : LocalState) → IsAsked state → may plan s state Begin ≡ true → is_dirty (hand_at s state i) ≡ true → ⊥
  begin_clean state asked h dirty =
      let ready : is_ready plan s state i ≡ true = ap (is_ready plan s state) (sym (zero-add i)) ∙ list_all-range (is_ready plan s state) 0 (length state.traffic) i (and_parts _ _ h).1 asked.within in
      elim (or_cases (not (is_dirty (hand_at s state i))) (token_at plan s state i == 0) (and_parts (fork_at plan s state i == 1) (not (is_dirty (hand_at s state i)) || token_at plan s state i == 0) ready).1) [
        | inl clean ↦ true≢false (sym dirty ∙ not-true (is_dirty (hand_at s state i)) clean)
        | inr none ↦ none_is_not_one (token_at plan s state i) (eqb-true (token_at plan s state i) 0 none) asked.one_token
      ]

  begin_waits : (state : LocalState) → IsAsked state → IsAsked (after plan s state Begin)
  begin_waits state asked = record { within = asked.within; one_fork = asked.one_fork; one_token = asked.one_token; last_within = omega (arith, asked.last_within) }

  begin_dirty : (state : LocalState) → IsAsked state → is_dirty (hand_at s (after plan s state Begin) i) ≡ true
  begin_dirty state asked = ap is_dirty (hand-more s state.ate (last_log_or [] (traffic_at state i).taken) asked.last_within)
      ∙ is_dirty-push_meal (hand_at s state i) s (state.ate + 1)

  none_more : (state new : LocalState) (steps : List Step) → IsAsked state → is_dirty (hand_at s state i) ≡ true → LeadTo plan s state steps new → list_any (is_give_at i) steps ≡ false → begins_in steps ≡ 0
  none_more state new [] asked dirty run no_give = refl
  none_more state new (step ∷ steps) asked dirty run no_give =
      let gives = or_parts (is_give_at i step) (list_any (is_give_at i) steps) no_give in
      elim (begin_or_not step) [
        | inl begins ↦ absurd (begin_clean state asked (subst (λ (x : Step). may plan s state x ≡ true) begins run.0) dirty)
        | inr other ↦
            let waits = step_waits state step asked run.0 gives.0 other.0 in
            other.1 steps ∙ none_more (after plan s state step) new steps waits.asked (ap is_dirty waits.same_hand ∙ dirty) run.1 gives.1
      ]

  -- with the fork here and asked for, at most one meal begins before it is given
  pub one_meal_at_most : (state new : LocalState) (steps : List Step) → IsAsked state → LeadTo plan s state steps new → list_any (is_give_at i) steps ≡ false → begins_in steps ≤ 1
  one_meal_at_most state new [] asked run no_give = omega arith
  one_meal_at_most state new (step ∷ steps) asked run no_give =
      let gives = or_parts (is_give_at i step) (list_any (is_give_at i) steps) no_give in
      elim (begin_or_not step) [
        | inl begins ↦
            let rest : LeadTo plan s (after plan s state Begin) steps new = subst (λ (x : Step). LeadTo plan s (after plan s state x) steps new) begins run.1 in
            let none : begins_in steps ≡ 0 = none_more (after plan s state Begin) new steps (begin_waits state asked) (begin_dirty state asked) rest gives.1 in
            let one : begins_in (step ∷ steps) ≡ suc (begins_in steps) = ap (λ (x : Step). begins_in (x ∷ steps)) begins in
            omega arith
        | inr other ↦
            let waits = step_waits state step asked run.0 gives.0 other.0 in
            let fewer : begins_in steps ≤ 1 = one_meal_at_most (after plan s state step) new steps waits.asked run.1 gives.1 in
            omega (arith, other.1 steps)
      ]

-- ---- the requests

module _ (plan : SeenPlan) (s : ℕ) where
  -- how many tokens the site has at place i at the start
  abbrev first_token : ℕ → ℕ
  first_token i = cond (hi_of plan (edge_at plan s i) == s) 1 0

  -- at each place no more Requests were put than the site had tokens for
  abbrev HadTokens : ℕ → Traffic → Type 0
  HadTokens i traffic = requests_in traffic.put ≤ first_token i + requests_in traffic.taken

  abbrev IsCounted : LocalState → Type 0
  IsCounted state = (i : ℕ) → HadTokens i (traffic_at state i)

  counted_set : (state : LocalState) (j : ℕ) (traffic : Traffic) → IsCounted state → j < length state.traffic → HadTokens j traffic → IsCounted (record state { traffic = slice_set state.traffic j traffic })
  counted_set state j traffic counted within here i = elim (cases_eq i j) [
    | inl same ↦ subst (HadTokens i) (sym (ap (λ (k : ℕ). get_or (slice_set state.traffic j traffic) k no_traffic) same ∙ get_or-set_same state.traffic j traffic no_traffic within))
        (subst (λ (k : ℕ). HadTokens k traffic) (sym same) here)
    | inr other ↦ subst (HadTokens i) (sym (get_or-set_other state.traffic j i traffic no_traffic other)) (counted i)
  ]

  -- a letter that is no Request is put
  counted_put : (state : LocalState) (j : ℕ) (l : Letter) → IsCounted state → j < length state.traffic → requests_in (l ∷ []) ≡ 0 → IsCounted (with_put j l state)
  counted_put state j l counted within none = counted_set state j _ counted within (omega (arith, counted j, requests_in-append (traffic_at state j).put (l ∷ []), none))

  step_counted : (state : LocalState) (step : Step) → IsCounted state → may plan s state step ≡ true → IsCounted (after plan s state step)
  step_counted state (Give j) counted h = counted_put state j _ counted (ltb-true _ _ (and_parts _ _ h).0) refl
  step_counted state (Ask j) counted h =
      let parts = and_parts _ _ h in
      let numbers = and_parts _ _ (and_parts _ _ (and_parts _ _ parts.1).0).1 in
      let one : token_at plan s state j ≡ 1 = eqb-true _ _ numbers.0 in
      counted_set state j _ counted (ltb-true _ _ parts.0) (omega (arith, one, requests_in-append (traffic_at state j).put (letter.Request (edge_at plan s j) ∷ [])))
  step_counted state (Done j) counted h = counted_put state j letter.Done counted (ltb-true _ _ (and_parts _ _ h).0) refl
  step_counted state (Close j) counted h = counted_put state j letter.Close counted (ltb-true _ _ (and_parts _ _ h).0) refl
  step_counted state (Break j) counted h = counted_put state j letter.Close counted (ltb-true _ _ (and_parts _ _ h).0) refl
  step_counted state (Take j l) counted h = counted_set state j _ counted (ltb-true _ _ (and_parts _ _ h).0) (omega (arith, counted j, requests_in-append (traffic_at state j).taken (l ∷ [])))
  step_counted state Hungry counted h = counted
  step_counted state Begin counted h = counted
  step_counted state (End failed) counted h = counted
  step_counted state Quit counted h = counted

  steps_counted : (state new : LocalState) (steps : List Step) → IsCounted state → LeadTo plan s state steps new → IsCounted new
  steps_counted state new [] counted run = subst IsCounted run counted
  steps_counted state new (step ∷ steps) counted run = steps_counted (after plan s state step) new steps (step_counted state step counted run.0) run.1

  start_counted : IsCounted (start_of plan s)
  start_counted i = subst (HadTokens i) (sym (no_traffic_yet (edges_of plan s) i)) (omega arith)

  -- The site takes a Request at place i. It holds fork and token then, and the log in hand is as it was.
  abbrev pub with_request : LocalState → ℕ → ℕ → LocalState
  with_request state i edge = after plan s state (Take i (letter.Request edge))

  pub record IsAskedNow (state : LocalState) (i edge : ℕ) : Type 0 where
    pub within : i < length (with_request state i edge).traffic
    pub one_fork : fork_at plan s (with_request state i edge) i ≡ 1
    pub one_token : token_at plan s (with_request state i edge) i ≡ 1
    pub same_hand : hand_at s (with_request state i edge) i ≡ hand_at s state i

  pub asked_now : (state : LocalState) (before : List Step) (i edge : ℕ) → LeadTo plan s (start_of plan s) before state → may plan s state (Take i (letter.Request edge)) ≡ true → IsAskedNow state i edge
  asked_now state before i edge run h =
      let parts = and_parts _ _ h in
      let allowed = and_parts _ _ (and_parts _ _ parts.1).1 in
      let numbers = and_parts (token_at plan s state i == 0) (fork_at plan s state i == 1) (and_parts (edge == edge_at plan s i) _ allowed.0).1 in
      let none : token_at plan s state i ≡ 0 = eqb-true _ _ numbers.0 in
      let one : fork_at plan s state i ≡ 1 = eqb-true _ _ numbers.1 in
      let had : HadTokens i (traffic_at state i) = steps_counted (start_of plan s) state before start_counted run i in
      let taken : List Letter = (traffic_at state i).taken in
      let new : Traffic = record (traffic_at state i) { taken = taken ++ letter.Request edge ∷ [] } in
      let here : traffic_at (with_request state i edge) i ≡ new = get_or-set_same state.traffic i new no_traffic (ltb-true i (length state.traffic) parts.0) in
      let forks : forks_in new.taken ≡ forks_in taken = omega (arith, forks_in-append taken (letter.Request edge ∷ [])) in
      let requests : requests_in new.taken ≡ requests_in taken + 1 = requests_in-append taken (letter.Request edge ∷ []) in
      let is_place : i < length state.traffic = ltb-true _ _ parts.0 in
      let tokens : tokens_held plan s (edge_at plan s i) new ≡ 1 = omega (arith, none, had, requests) in
      record {
        within = omega (arith, is_place, length-set state.traffic i new);
        one_fork = ap (forks_held plan s (edge_at plan s i)) here ∙ ap (λ (n : ℕ). cond (lo_of plan (edge_at plan s i) == s) 1 0 + n - forks_in (traffic_at state i).put) forks ∙ one;
        one_token = ap (tokens_held plan s (edge_at plan s i)) here ∙ tokens;
        same_hand = ap (λ (t : Traffic). with_meals_to s state.ate (last_log_or [] t.taken)) here ∙ ap (with_meals_to s state.ate) (last_log_or-append [] taken (letter.Request edge ∷ []));
      }

-- The precedence of the asker: from a state that steps reach from the start, where the fork and the token are both held
-- at a place, steps without a Give there have at most one Begin, and none if the fork is dirty.
module _ (plan : SeenPlan) (s i : ℕ) (state new : LocalState) (before steps : List Step) (reached : LeadTo plan s (start_of plan s) before state) (within : i < length state.traffic)
    (one_fork : fork_at plan s state i ≡ 1) (one_token : token_at plan s state i ≡ 1) where
  asked : IsAsked plan s i state
  asked = record { within = within; one_fork = one_fork; one_token = one_token; last_within = reached_within plan s state before reached i }

  pub asker_first : LeadTo plan s state steps new → list_any (is_give_at i) steps ≡ false → begins_in steps ≤ 1
  asker_first = one_meal_at_most plan s i state new steps asked

  pub asker_next : is_dirty (hand_at s state i) ≡ true → LeadTo plan s state steps new → list_any (is_give_at i) steps ≡ false → begins_in steps ≡ 0
  asker_next = none_more plan s i state new steps asked
