-- The meal of a site of the world stays with each letter that is put or taken while it eats.
use Rattle.std.proofs.Common.{◌≡◌, ℕ, ◌+◌, ◌-◌, ◌<◌, Bool, true, false, ◌==◌, List, [], ◌∷◌, ◌++◌, length, get_or, slice_set, Option, Some, None, refl, sym, ◌∙◌, ap, subst, inl, inr, arith, if◌then◌else◌, ◌&&◌, not, nat_lt, is_some}
use Rattle.std.specs.List.{range_with_len}
use Rattle.std.proofs.lemmas.Bool.{and_parts, cases_Bool, cases_eq, cond-false, eqb-true, false≢true, ltb-true}
use Rattle.std.proofs.lemmas.List.{get_or-set_same, get_or-set_other, length-set}
use Rattle.dine_token.specs.Fork.{SeenFork}
use Rattle.dine_token.specs.Meal.{SeenMeal}
use Rattle.dine_graph.specs.Plan.{SeenPlan, lo_of}
use Rattle.dine_rules.specs.declared.breach.Breach.{Breach}
use Rattle.dine_rules.specs.declared.letters.Letter.{Letter}
use Rattle.dine_rules.specs.declared.letters.Letter.TheVariants.{Fork, Request, Done, Close}
use Rattle.dine_rules.specs.Letters.{forks_in}
use Rattle.dine_rules.specs.Local.{LocalState, Traffic, no_traffic, traffic_at, edge_at, is_eating}
use Rattle.dine_rules.specs.Holdings.{EatsWithAll, forks_held, fork_at}
use Rattle.dine_rules.specs.Steps.{Take, may, with_put, with_taken, hand_fork, hand_fork_at}
use Rattle.dine_site.specs.Core.{forks_in_hand}
use Rattle.dine_world.specs.WorldSites.{meal_of}
use Rattle.dine_site.specs.Standing.{all_places}
use Rattle.dine_rules.proofs.shared.lists.Counting.{forks_in-append}
use Rattle.dine_rules.proofs.shared.one_place.HandForks.{hand_fork-stays}
use Rattle.dine_rules.proofs.shared.one_place.Values.{is_no_fork}

no_more_forks : (l : Letter) (xs : List Letter) → is_no_fork l ≡ true → forks_in (xs ++ l ∷ []) ≡ forks_in xs
no_more_forks (Fork fork) xs h = absurd (false≢true h)
no_more_forks (Request edge) xs h = omega (arith, forks_in-append xs (Request edge ∷ []))
no_more_forks Done xs h = omega (arith, forks_in-append xs (Done ∷ []))
no_more_forks Close xs h = omega (arith, forks_in-append xs (Close ∷ []))

-- the numbers and forks of two states agree at each place
record Agrees (plan : SeenPlan) (s : ℕ) (a b : LocalState) : Type 0 where
  forks : (i : ℕ) → fork_at plan s a i ≡ fork_at plan s b i
  hands : (i : ℕ) → hand_fork_at plan s a i ≡ hand_fork_at plan s b i

-- so they have the same forks in hand
same_forks : (plan : SeenPlan) (s : ℕ) (a b : LocalState) → Agrees plan s a b → (places : List ℕ) → forks_in_hand plan s a places ≡ forks_in_hand plan s b places
same_forks plan s a b agrees [] = refl
same_forks plan s a b agrees (i ∷ places) =
    let F : forks_in_hand plan s a (i ∷ places) ≡ (if fork_at plan s b i == 1 then hand_fork_at plan s a i ∷ forks_in_hand plan s a places else forks_in_hand plan s a places)
    = ap (λ (n : ℕ). if n == 1 then hand_fork_at plan s a i ∷ forks_in_hand plan s a places else forks_in_hand plan s a places) (agrees.forks i) in
    F ∙ ap (λ (fork : SeenFork). if fork_at plan s b i == 1 then fork ∷ forks_in_hand plan s a places else forks_in_hand plan s a places) (agrees.hands i)
    ∙ ap (λ (l : List SeenFork). if fork_at plan s b i == 1 then hand_fork_at plan s b i ∷ l else l) (same_forks plan s a b agrees places)

-- traffic that differs at place i alone
at_place : {A : Type 0} (f : ℕ → Traffic → A) (xs : List Traffic) (i j : ℕ) (t : Traffic) → i < length xs → f i t ≡ f i (get_or xs i no_traffic) → f j (get_or (slice_set xs i t) j no_traffic) ≡ f j (get_or xs j no_traffic)
at_place f xs i j t within same = elim (cases_eq j i) [
  | inl is ↦ subst (λ (k : ℕ). f k (get_or (slice_set xs i t) k no_traffic) ≡ f k (get_or xs k no_traffic)) (sym is) (ap (f i) (get_or-set_same xs i t no_traffic within) ∙ same)
  | inr other ↦ ap (f j) (get_or-set_other xs i j t no_traffic other)
]

module _ (plan : SeenPlan) (s : ℕ) (state : LocalState) (i : ℕ) (within : i < length state.traffic) (l : Letter) where
  abbrev held_where : ℕ → Traffic → ℕ
  held_where j t = forks_held plan s (edge_at plan s j) t

  abbrev hand_where : ℕ → Traffic → SeenFork
  hand_where j t = hand_fork plan s (edge_at plan s j) state.ate t

  put_agrees : is_no_fork l ≡ true → Agrees plan s (with_put i l state) state
  put_agrees none =
      let t = traffic_at state i in
      let fewer : held_where i (record t { put = t.put ++ l ∷ [] }) ≡ held_where i t
      = ap (λ (n : ℕ). (if lo_is then 1 else 0) + forks_in t.taken - n) (no_more_forks l t.put none) in
      record {
        forks = λ j. at_place held_where state.traffic i j _ within fewer;
        hands = λ j. at_place hand_where state.traffic i j _ within refl;
      }
    where
      lo_is : Bool
      lo_is = lo_of plan (edge_at plan s i) == s

  taken_agrees : is_no_fork l ≡ true → Agrees plan s (with_taken i l state) state
  taken_agrees none =
      let t = traffic_at state i in
      record {
        forks = λ j. at_place held_where state.traffic i j _ within (ap (λ (n : ℕ). (if lo_is then 1 else 0) + n - forks_in t.put) (no_more_forks l t.taken none));
        hands = λ j. at_place hand_where state.traffic i j _ within (hand_fork-stays plan s (edge_at plan s i) state.ate t l none);
      }
    where
      lo_is : Bool
      lo_is = lo_of plan (edge_at plan s i) == s

  abbrev meal_with : List SeenFork → Option SeenMeal
  meal_with forks = if is_eating state.phase then Some (record { site = s; k = state.ate; forks = forks }) else None

  -- a letter other than a Fork is put
  pub meal-put : is_no_fork l ≡ true → meal_of plan s (with_put i l state) ≡ meal_of plan s state
  meal-put none = ap meal_with (same_forks plan s (with_put i l state) state (put_agrees none) (all_places (with_put i l state))
      ∙ ap (λ (n : ℕ). forks_in_hand plan s state (range_with_len 0 n)) (length-set state.traffic i _))

  meal-taken_none : is_no_fork l ≡ true → meal_of plan s (with_taken i l state) ≡ meal_of plan s state
  meal-taken_none none = ap meal_with (same_forks plan s (with_taken i l state) state (taken_agrees none) (all_places (with_taken i l state))
      ∙ ap (λ (n : ℕ). forks_in_hand plan s state (range_with_len 0 n)) (length-set state.traffic i _))

  -- a site that does not eat has no meal
  pub meal-awake : is_eating state.phase ≡ false → (forks other : List SeenFork) → meal_with forks ≡ meal_with other
  meal-awake awake forks other = cond-false (is_eating state.phase) (Some (record { site = s; k = state.ate; forks = forks })) None awake
      ∙ sym (cond-false (is_eating state.phase) (Some (record { site = s; k = state.ate; forks = other })) None awake)

no_fork_while_eating : (plan : SeenPlan) (s : ℕ) (state : LocalState) (i : ℕ) (l : Letter) → fork_at plan s state i ≡ 1 → may plan s state (Take i l) ≡ true → is_no_fork l ≡ true
no_fork_while_eating plan s state i (Fork fork) held h =
    let parts = and_parts _ _ h in
    let within : i < length state.traffic = ltb-true _ _ parts.0 in
    let allowed = and_parts _ _ (and_parts _ _ parts.1).1 in
    let rest = and_parts _ _ allowed.0 in
    let front = and_parts _ _ rest.0 in
    let numbers = and_parts _ _ front.1 in
    let away : fork_at plan s state i ≡ 0 = eqb-true _ _ numbers.0 in
    absurd (omega (arith, away, held))
no_fork_while_eating plan s state i (Request edge) held h = refl
no_fork_while_eating plan s state i Done held h = refl
no_fork_while_eating plan s state i Close held h = refl

-- a letter is taken
pub meal-taken : (plan : SeenPlan) (s : ℕ) (state : LocalState) (i : ℕ) (l : Letter) → EatsWithAll plan s state → may plan s state (Take i l) ≡ true → meal_of plan s (with_taken i l state) ≡ meal_of plan s state
meal-taken plan s state i l eats h =
    let within : i < length state.traffic = ltb-true _ _ (and_parts _ _ h).0 in
    elim (cases_Bool (is_eating state.phase)) [
      | inl eating ↦ meal-taken_none plan s state i within l (no_fork_while_eating plan s state i l (eats eating i within) h)
      | inr awake ↦ meal-awake plan s state i within l awake _ _
    ]

-- a meal by its parts
pub meal_is : (meal : SeenMeal) (s k : ℕ) (forks : List SeenFork) → meal.site ≡ s → meal.k ≡ k → meal.forks ≡ forks → meal ≡ record { site = s; k = k; forks = forks }
meal_is meal s k forks a b c = ap (λ (x : ℕ). record { site = x; k = meal.k; forks = meal.forks }) a
    ∙ ap (λ (x : ℕ). record { site = s; k = x; forks = meal.forks }) b
    ∙ ap (λ (x : List SeenFork). record { site = s; k = k; forks = x }) c

-- a number that a test has within
pub within_of : (n m : ℕ) (b : Bool) → (nat_lt n m && b) ≡ true → n < m
within_of n m b h = ltb-true n m (and_parts (nat_lt n m) b h).0

-- no breach where the test says that the letter is in turn
pub none_applies : (o : Option Breach) → not (is_some o) ≡ true → o ≡ None
none_applies None h = refl
none_applies (Some b) h = absurd (false≢true h)
