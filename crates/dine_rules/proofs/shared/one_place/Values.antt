-- The value in hand, and the chain of the values put and taken at one place.
use Rattle.std.proofs.Common.{◌≡◌, ◌⊎◌, ℕ, zero, suc, ◌+◌, ◌-◌, ◌≤◌, ◌==◌, Bool, true, false, List, [], ◌∷◌, ◌++◌, get_or, slice_get, Some, sym, ◌∙◌, ap, ap₂, subst, inl, inr, arith}
use Rattle.std.proofs.lemmas.List.{append-nil}
use Rattle.std.proofs.lemmas.Option.{slice_get-get_or}
use Rattle.dine_token.specs.declared.log_entry.Entry.{Entry}
use Rattle.dine_token.specs.Fork.{SeenFork, no_fork}
use Rattle.dine_token.specs.Log.{meals_of}
use Rattle.dine_token.specs.Values.{value_after_act}
use Rattle.dine_graph.specs.Plan.{SeenPlan, act_of, lo_of, value_of}
use Rattle.dine_rules.specs.declared.letters.Letter.{Letter}
use Rattle.dine_rules.specs.declared.letters.Letter.TheVariants.{Fork, Request, Done, Close}
use Rattle.dine_rules.specs.Letters.{forks_among, forks_in, last_log_or, last_value_or}
use Rattle.dine_rules.specs.Local.{Traffic}
use Rattle.dine_rules.specs.Values.{after_meals, value_to, hand_value, CarriesValue, AreValuesChained}
use Rattle.dine_rules.proofs.shared.lists.Counting.{last_log_or-none, slice_get-push}
use Rattle.dine_rules.proofs.shared.lists.Forks.{forks_among-append, forks_among-before, last_fork, last_value_or-none, length-forks_among}

-- a letter that is no Fork
abbrev pub is_no_fork : Letter → Bool
is_no_fork (Fork fork) = false
is_no_fork (Request edge) = true
is_no_fork Done = true
is_no_fork Close = true

pub no_more_forks : (l : Letter) (xs : List Letter) → is_no_fork l ≡ true → forks_among (xs ++ l ∷ []) ≡ forks_among xs
no_more_forks (Fork fork) xs h = absurd (cc)
no_more_forks (Request edge) xs h = forks_among-append xs (Request edge ∷ []) ∙ append-nil (forks_among xs)
no_more_forks Done xs h = forks_among-append xs (Done ∷ []) ∙ append-nil (forks_among xs)
no_more_forks Close xs h = forks_among-append xs (Close ∷ []) ∙ append-nil (forks_among xs)

-- ---- the value in hand

after_meals-push : (plan : SeenPlan) (s first n value : ℕ) → after_meals plan s first (suc n) value ≡ value_after_act (act_of plan s (first + n)) (after_meals plan s first n value)
after_meals-push plan s first zero value = ap (λ (k : ℕ). value_after_act (act_of plan s k) value) (let e : first ≡ first + 0 = omega arith in e)
after_meals-push plan s first (suc n) value =
    after_meals-push plan s (first + 1) n (value_after_act (act_of plan s first) value)
    ∙ ap (λ (k : ℕ). value_after_act (act_of plan s k) (after_meals plan s first (suc n) value)) (let e : first + 1 + n ≡ first + suc n = omega arith in e)

-- after one meal more it has its act
pub value_to-more : (plan : SeenPlan) (s ate : ℕ) (log : List Entry) (value : ℕ) → meals_of s log ≤ ate → value_to plan s (ate + 1) log value ≡ value_after_act (act_of plan s (ate + 1)) (value_to plan s ate log value)
value_to-more plan s ate log value last =
    let longer : ate + 1 - meals_of s log ≡ suc (ate - meals_of s log) = omega arith in
    let number : meals_of s log + 1 + (ate - meals_of s log) ≡ ate + 1 = omega arith in
    ap (λ (n : ℕ). after_meals plan s (meals_of s log + 1) n value) longer
    ∙ after_meals-push plan s (meals_of s log + 1) (ate - meals_of s log) value
    ∙ ap (λ (k : ℕ). value_after_act (act_of plan s k) (value_to plan s ate log value)) number

-- a log with all meals has it already
pub value_to-same : (plan : SeenPlan) (s ate : ℕ) (log : List Entry) (value : ℕ) → meals_of s log ≡ ate → value_to plan s ate log value ≡ value
value_to-same plan s ate log value all = ap (λ (n : ℕ). after_meals plan s (meals_of s log + 1) n value) (let none : ate - meals_of s log ≡ 0 = omega arith in none)

-- ---- the chain

carries_still : (plan : SeenPlan) (s k : ℕ) (fork : SeenFork) (old new : List SeenFork) → ((before : SeenFork) → slice_get old k ≡ Some before → slice_get new k ≡ Some before)
    → CarriesValue plan s old k fork → CarriesValue plan s new k fork
carries_still plan s k fork old new stay w = record { before = w.before; is_taken = stay w.before w.is_taken; carries = w.carries }

-- so are fewer Forks put, where no fewer are taken
pub values_along : (plan : SeenPlan) (s edge : ℕ) (old new : Traffic) → AreValuesChained plan s edge old
    → ((k : ℕ) (fork : SeenFork) → slice_get (forks_among new.put) k ≡ Some fork → slice_get (forks_among old.put) k ≡ Some fork)
    → ((k : ℕ) (fork : SeenFork) → slice_get (forks_among old.taken) k ≡ Some fork → slice_get (forks_among new.taken) k ≡ Some fork)
    → AreValuesChained plan s edge new
values_along plan s edge old new values fewer more = record {
  first = λ low fork h. values.first low fork (fewer 0 fork h);
  next = λ low k fork h. carries_still plan s k fork (forks_among old.taken) (forks_among new.taken) (more k) (values.next low k fork (fewer (k + 1) fork h));
  answers = λ high k fork h. carries_still plan s k fork (forks_among old.taken) (forks_among new.taken) (more k) (values.answers high k fork (fewer k fork h));
}

module _ (plan : SeenPlan) (s edge : ℕ) (t : Traffic) (values : AreValuesChained plan s edge t) where
  -- a letter that is no Fork is put
  pub values-put : (l : Letter) → is_no_fork l ≡ true → AreValuesChained plan s edge (record t { put = t.put ++ l ∷ [] })
  values-put l none = values_along plan s edge t (record t { put = t.put ++ l ∷ [] }) values
      (λ k fork h. ap (λ (forks : List SeenFork). slice_get forks k) (sym (no_more_forks l t.put none)) ∙ h) (λ k fork h. h)

  -- a letter is taken
  pub values-take : (l : Letter) → AreValuesChained plan s edge (record t { taken = t.taken ++ l ∷ [] })
  values-take l = values_along plan s edge t (record t { taken = t.taken ++ l ∷ [] }) values (λ k fork h. h) (λ k fork h. forks_among-before t.taken (l ∷ []) k fork h)

  -- the fork in hand is put
  pub values-give : (ate : ℕ) (fork : SeenFork) → ((lo_of plan edge == s) ≡ true → forks_in t.put ≡ forks_in t.taken) → ((lo_of plan edge == s) ≡ false → forks_in t.put + 1 ≡ forks_in t.taken)
      → fork.value ≡ hand_value plan s edge ate t → meals_of s fork.log ≡ ate → AreValuesChained plan s edge (record t { put = t.put ++ Fork fork ∷ [] })
  values-give ate fork from_low from_high is all = record {
    first = λ low f h. elim (put_is 0 f h) [
      | inl w ↦ values.first low f w
      | inr w ↦
          let none : forks_in t.taken ≡ 0 = omega (arith, w.0, from_low low) in
          given 0 f w.1 (λ (g : SeenFork). g.value ≡ value_to plan s (meals_of s g.log) [] (value_of plan edge))
          (has_value [] (value_of plan edge) (last_log_or-none [] t.taken none) (last_value_or-none (value_of plan edge) t.taken none))
    ];
    next = λ low k f h. elim (put_is (k + 1) f h) [
      | inl w ↦ values.next low k f w
      | inr w ↦ given k f w.1 (CarriesValue plan s (forks_among t.taken) k) (carries k (omega (arith, w.0, from_low low)))
    ];
    answers = λ high k f h. elim (put_is k f h) [
      | inl w ↦ values.answers high k f w
      | inr w ↦ given k f w.1 (CarriesValue plan s (forks_among t.taken) k) (carries k (omega (arith, w.0, from_high high)))
    ];
  } where
    put_is : (k : ℕ) (f : SeenFork) → slice_get (forks_among (t.put ++ Fork fork ∷ [])) k ≡ Some f → (slice_get (forks_among t.put) k ≡ Some f) ⊎ ((k ≡ forks_in t.put) × (fork ≡ f))
    put_is k f h = elim (slice_get-push (forks_among t.put) fork f k (ap (λ (forks : List SeenFork). slice_get forks k) (sym (forks_among-append t.put (Fork fork ∷ []))) ∙ h)) [
      | inl w ↦ inl w
      | inr w ↦ inr (w.0 ∙ length-forks_among t.put, w.1)
    ]

    given : (k : ℕ) (f : SeenFork) → fork ≡ f → (P : SeenFork → Type 0) → P fork → P f
    given k f same P h = subst P same h

    -- its value is that of the last Fork taken, after the meals since
    has_value : (log : List Entry) (value : ℕ) → last_log_or [] t.taken ≡ log → last_value_or (value_of plan edge) t.taken ≡ value → fork.value ≡ value_to plan s (meals_of s fork.log) log value
    has_value log value log_is value_is = is ∙ ap₂ (λ (l : List Entry) (v : ℕ). value_to plan s ate l v) log_is value_is ∙ ap (λ (n : ℕ). value_to plan s n log value) (sym all)

    carries : (k : ℕ) → k + 1 ≡ forks_in t.taken → CarriesValue plan s (forks_among t.taken) k fork
    carries k is_end =
        let before : SeenFork = get_or (forks_among t.taken) k no_fork in
        let here : slice_get (forks_among t.taken) k ≡ Some before = slice_get-get_or (forks_among t.taken) k no_fork (omega (arith, is_end, length-forks_among t.taken)) in
        let last = last_fork [] (value_of plan edge) t.taken k before here is_end in
        record { before = before; is_taken = here; carries = has_value before.log before.value last.0 last.1 }
