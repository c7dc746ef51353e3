-- How many letters a site puts at a place.
use Rattle.std.proofs.Common.{◌≡◌, ℕ, ◌+◌, ◌*◌, ◌<◌, ◌≤◌, Bool, true, false, cond, not, ◌&&◌, ◌==◌, List, [], ◌∷◌, ◌++◌, length, refl, sym, ◌∙◌, ap, inl, inr, arith}
use Rattle.std.proofs.lemmas.Bool.{false≢true, and_parts, not-true, or_cases, cases_Bool, cond-true, cond-false, eqb-true}
use Rattle.dine_token.specs.declared.limits.TheConstants.{MAX_JOBS}
use Rattle.dine_token.specs.declared.log_entry.Entry.{Entry}
use Rattle.dine_token.specs.declared.log_entry.Entry.TheVariants.{Move}
use Rattle.dine_token.specs.Log.{is_dirty, location_of}
use Rattle.dine_token.proofs.shared.Logs.{clean_ends_in_move, location_of-push_move}
use Rattle.dine_graph.specs.Plan.{SeenPlan, IsPlan, site_count, job_count}
use Rattle.dine_rules.specs.declared.letters.Letter.{Letter}
use Rattle.dine_rules.specs.declared.letters.Letter.TheVariants.{Fork, Request, Done, Close}
use Rattle.dine_rules.specs.Letters.{forks_in, requests_in, dones_in, closes_in, has_done}
use Rattle.dine_rules.specs.Local.{LocalState, traffic_at, is_hungry}
use Rattle.dine_rules.specs.Holdings.{fork_at, token_at, hand_at}
use Rattle.dine_rules.specs.Breach.{was_sent_to}
use Rattle.dine_rules.specs.Streams.{KeepsStreams, KeepsStreamsAt, is_lower_at, has_asked_since_meal, is_done_last, is_close_last}
use Rattle.dine_rules.proofs.shared.lists.Counting.{forks_in_turn}

-- a list of letters, by their kinds
pub length-letters : (xs : List Letter) → length xs ≡ forks_in xs + requests_in xs + dones_in xs + closes_in xs
length-letters [] = refl
length-letters (Fork fork ∷ xs) = omega (arith, length-letters xs)
length-letters (Request edge ∷ xs) = omega (arith, length-letters xs)
length-letters (Done ∷ xs) = omega (arith, length-letters xs)
length-letters (Close ∷ xs) = omega (arith, length-letters xs)

no_dones : (xs : List Letter) → has_done xs ≡ false → dones_in xs ≡ 0
no_dones [] h = refl
no_dones (Fork fork ∷ xs) h = no_dones xs h
no_dones (Request edge ∷ xs) h = no_dones xs h
no_dones (Done ∷ xs) h = absurd (false≢true (sym h))
no_dones (Close ∷ xs) h = no_dones xs h

-- nothing behind Done is Done, and nothing stands behind Close
pub one_done : (xs : List Letter) → is_done_last xs ≡ true → dones_in xs ≤ 1
one_done [] h = omega arith
one_done (Fork fork ∷ xs) h = one_done xs h
one_done (Request edge ∷ xs) h = one_done xs h
one_done (Done ∷ xs) h = omega (arith, no_dones xs (not-true (has_done xs) (and_parts _ _ h).0))
one_done (Close ∷ xs) h = one_done xs h

pub one_close : (xs : List Letter) → is_close_last xs ≡ true → closes_in xs ≤ 1
one_close [] h = omega arith
one_close (Fork fork ∷ xs) h = one_close xs h
one_close (Request edge ∷ xs) h = one_close xs h
one_close (Done ∷ xs) h = one_close xs h
one_close (Close ∷ []) h = omega arith
one_close (Close ∷ l ∷ xs) h = absurd (false≢true h)

-- a log that was sent here ends in a Move here
pub ends_in_move_here : (lower s : ℕ) (log : List Entry) → was_sent_to lower s log ≡ true → (before : List Entry) × (log ≡ before ++ Move s ∷ [])
ends_in_move_here lower s log h =
    let parts = and_parts (not (is_dirty log)) (location_of lower log == s) h in
    let w = clean_ends_in_move log (not-true (is_dirty log) parts.0) in
    let at : location_of lower log ≡ w.1 = ap (λ (l : List Entry). location_of lower l) w.2 ∙ location_of-push_move lower w.0 w.1 in
    let here : w.1 ≡ s = sym at ∙ eqb-true (location_of lower log) s parts.1 in
    (w.0, w.2 ∙ ap (λ (to : ℕ). w.0 ++ Move to ∷ []) here)

module _ (plan : SeenPlan) (s : ℕ) (state : LocalState) (i : ℕ) where
  -- who is owed a meal is hungry
  pub owed_is_hungry : KeepsStreamsAt plan s state i → has_asked_since_meal plan s state i ≡ true → is_hungry state.phase ≡ true
  owed_is_hungry k h = elim (or_cases (fork_at plan s state i == 0 && token_at plan s state i == 0) (fork_at plan s state i == 1 && not (is_dirty (hand_at s state i))) h) [
    | inl w ↦ let parts = and_parts (fork_at plan s state i == 0) (token_at plan s state i == 0) w in
        k.waiter_is_hungry (eqb-true (fork_at plan s state i) 0 parts.0) (eqb-true (token_at plan s state i) 0 parts.1)
    | inr w ↦ let parts = and_parts (fork_at plan s state i == 1) (not (is_dirty (hand_at s state i))) w in
        k.clean_is_hungry (eqb-true (fork_at plan s state i) 1 parts.0) (not-true (is_dirty (hand_at s state i)) parts.1)
  ]

  -- who waits at a place has meals left
  pub waiter_has_left : KeepsStreams plan s state → i < length state.traffic → fork_at plan s state i ≡ 0 → token_at plan s state i ≡ 0 → (is_hungry state.phase ≡ true) × (state.ate < job_count plan s)
  waiter_has_left keeps within no_fork no_token =
      let hungry = (keeps.places i within).waiter_is_hungry no_fork no_token in
      (hungry, keeps.hungry_has_left hungry)

  -- a Request for each meal at most
  pub requests_within : KeepsStreams plan s state → i < length state.traffic → requests_in (traffic_at state i).put ≤ job_count plan s
  requests_within keeps within = elim (cases_Bool (has_asked_since_meal plan s state i)) [
    | inl owed ↦ omega (arith, (keeps.places i within).requests_within, cond-true {A = ℕ} (has_asked_since_meal plan s state i) 1 0 owed, keeps.hungry_has_left (owed_is_hungry (keeps.places i within) owed))
    | inr not_owed ↦ omega (arith, (keeps.places i within).requests_within, cond-false {A = ℕ} (has_asked_since_meal plan s state i) 1 0 not_owed, keeps.ate_within)
  ]

  -- a Fork for each Request put, and the lower end one more
  pub forks_after_requests : KeepsStreamsAt plan s state i → forks_in (traffic_at state i).put ≤ cond (is_lower_at plan s i) 1 0 + requests_in (traffic_at state i).put
  forks_after_requests k = (forks_in_turn (is_lower_at plan s i) (traffic_at state i).put k.put_lawful.alternating).0

  pub forks_within : KeepsStreams plan s state → i < length state.traffic → forks_in (traffic_at state i).put ≤ job_count plan s + 1
  forks_within keeps within = omega (arith, forks_after_requests (keeps.places i within), at_most_one (is_lower_at plan s i), requests_within keeps within) where
    at_most_one : (b : Bool) → cond b 1 0 ≤ 1
    at_most_one true = omega arith
    at_most_one false = omega arith

  pub dones_within : KeepsStreamsAt plan s state i → dones_in (traffic_at state i).put ≤ 1
  dones_within k = one_done (traffic_at state i).put k.put_lawful.done_last

  pub closes_within : KeepsStreamsAt plan s state i → closes_in (traffic_at state i).put ≤ 1
  closes_within k = one_close (traffic_at state i).put k.put_lawful.close_last

  -- all letters that a site puts at a place
  pub puts_within : KeepsStreams plan s state → i < length state.traffic → length (traffic_at state i).put ≤ 2 * job_count plan s + 3
  puts_within keeps within = omega (arith, length-letters (traffic_at state i).put, forks_within keeps within, requests_within keeps within, dones_within (keeps.places i within), closes_within (keeps.places i within))

  pub puts_few : IsPlan plan → s < site_count plan → KeepsStreams plan s state → i < length state.traffic → length (traffic_at state i).put ≤ 2 * MAX_JOBS + 3
  puts_few is_plan is_site keeps within = omega (arith, puts_within keeps within, is_plan.few_jobs s is_site)
