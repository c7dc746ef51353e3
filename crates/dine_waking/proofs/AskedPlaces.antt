-- One place of a site: what the numbers of its letters say of the fork and the token there, and of the meals.
use Rattle.std.proofs.Common.{◌≡◌, ◌⊎◌, ℕ, ◌+◌, ◌<◌, ◌≤◌, Bool, true, false, cond, not, ◌||◌, ◌==◌, List, [], ◌∷◌, length, get_or, slice_set, refl, sym, ◌∙◌, ap, subst, inl, inr, arith, zero-add}
use Rattle.std.proofs.lemmas.Bool.{true≢false, and_parts, or_cases, not-true, eqb-true}
use Rattle.dine_token.specs.declared.log_entry.Entry.{Entry}
use Rattle.dine_token.specs.Log.{is_dirty}
use Rattle.dine_graph.specs.Plan.{SeenPlan}
use Rattle.dine_rules.specs.Letters.{forks_in, requests_in, last_log_or}
use Rattle.dine_rules.specs.Local.{LocalState, Traffic, no_traffic, traffic_at}
use Rattle.dine_rules.specs.Holdings.{fork_at, token_at, hand_at, with_meals_to}
use Rattle.dine_rules.specs.Steps.{Step, Begin, after, may, is_ready}
use Rattle.dine_rules.specs.Streams.{KeepsStreamsAt, is_lower_at}
use Rattle.dine_rules.proofs.shared.counting.Persistence.{IsLonger, longer_same, set_cases}
use Rattle.dine_rules.proofs.shared.lists.Counting.{forks_in-append, forks_in_turn, last_log_or-append, last_log_or-none, none_is_not_one}
use Rattle.dine_rules.proofs.shared.one_site.Shapes.{by_moves, moved, step_shape}
use Rattle.dine_rules.proofs.shared.one_site.SiteSteps.{list_all-range}

-- ---- numbers

-- the Forks and Requests of a place, put and taken, where they alternate and fork and token are counted
record AreCounted (lower : Bool) (fork token forks_put forks_taken requests_put requests_taken : ℕ) : Type 0 where
  put : (forks_put ≤ cond lower 1 0 + requests_put) × (cond lower 1 0 + requests_put ≤ forks_put + 1)
  taken : (forks_taken ≤ cond (not lower) 1 0 + requests_taken) × (cond (not lower) 1 0 + requests_taken ≤ forks_taken + 1)
  forks : fork + forks_put ≡ cond lower 1 0 + forks_taken
  tokens : token + requests_put ≡ cond lower 0 1 + requests_taken
  one_fork : fork ≤ 1
  one_token : token ≤ 1

asked_numbers : (lower : Bool) (fork token forks_put forks_taken requests_put requests_taken : ℕ) → AreCounted lower fork token forks_put forks_taken requests_put requests_taken → forks_put < requests_taken → (fork ≡ 1) × (token ≡ 1)
asked_numbers true fork token forks_put forks_taken requests_put requests_taken counted asked = (omega (arith, counted.put.0, counted.put.1, counted.taken.0, counted.taken.1), omega (arith, counted.put.0, counted.put.1, counted.taken.0, counted.taken.1))
asked_numbers false fork token forks_put forks_taken requests_put requests_taken counted asked = (omega (arith, counted.put.0, counted.put.1, counted.taken.0, counted.taken.1), omega (arith, counted.put.0, counted.put.1, counted.taken.0, counted.taken.1))

waiter_numbers : (lower : Bool) (fork token forks_put forks_taken requests_put requests_taken : ℕ) → AreCounted lower fork token forks_put forks_taken requests_put requests_taken → forks_taken < requests_put → (fork ≡ 0) × (token ≡ 0)
waiter_numbers true fork token forks_put forks_taken requests_put requests_taken counted waits = (omega (arith, counted.put.0, counted.put.1, counted.taken.0, counted.taken.1), omega (arith, counted.put.0, counted.put.1, counted.taken.0, counted.taken.1))
waiter_numbers false fork token forks_put forks_taken requests_put requests_taken counted waits = (omega (arith, counted.put.0, counted.put.1, counted.taken.0, counted.taken.1), omega (arith, counted.put.0, counted.put.1, counted.taken.0, counted.taken.1))

waiter_asked : (lower : Bool) (fork token forks_put forks_taken requests_put requests_taken : ℕ) → AreCounted lower fork token forks_put forks_taken requests_put requests_taken → forks_put ≤ requests_taken → fork ≡ 0 → token ≡ 0 → forks_taken < requests_put
waiter_asked true fork token forks_put forks_taken requests_put requests_taken counted given none no_token = omega (arith, counted.forks, counted.tokens)
waiter_asked false fork token forks_put forks_taken requests_put requests_taken counted given none no_token = omega (arith, counted.forks, counted.tokens)

module _ (plan : SeenPlan) (s i : ℕ) where
  -- ---- a state

  counted : (state : LocalState) → KeepsStreamsAt plan s state i
      → AreCounted (is_lower_at plan s i) (fork_at plan s state i) (token_at plan s state i) (forks_in (traffic_at state i).put) (forks_in (traffic_at state i).taken) (requests_in (traffic_at state i).put) (requests_in (traffic_at state i).taken)
  counted state keeps = record {
    put = forks_in_turn (is_lower_at plan s i) (traffic_at state i).put keeps.put_lawful.alternating;
    taken = forks_in_turn (not (is_lower_at plan s i)) (traffic_at state i).taken keeps.taken_lawful.alternating;
    forks = keeps.forks_counted;
    tokens = keeps.tokens_counted;
    one_fork = keeps.one_fork;
    one_token = keeps.one_token;
  }

  -- a site that took more Requests than it gave Forks holds fork and token
  pub asked_holds : (state : LocalState) → KeepsStreamsAt plan s state i → forks_in (traffic_at state i).put < requests_in (traffic_at state i).taken → (fork_at plan s state i ≡ 1) × (token_at plan s state i ≡ 1)
  asked_holds state keeps asked = asked_numbers (is_lower_at plan s i) (fork_at plan s state i) (token_at plan s state i) (forks_in (traffic_at state i).put) (forks_in (traffic_at state i).taken)
      (requests_in (traffic_at state i).put) (requests_in (traffic_at state i).taken) (counted state keeps) asked

  -- a site that put more Requests than it took Forks holds neither
  pub asker_waits : (state : LocalState) → KeepsStreamsAt plan s state i → forks_in (traffic_at state i).taken < requests_in (traffic_at state i).put → (fork_at plan s state i ≡ 0) × (token_at plan s state i ≡ 0)
  asker_waits state keeps waits = waiter_numbers (is_lower_at plan s i) (fork_at plan s state i) (token_at plan s state i) (forks_in (traffic_at state i).put) (forks_in (traffic_at state i).taken)
      (requests_in (traffic_at state i).put) (requests_in (traffic_at state i).taken) (counted state keeps) waits

  -- and the other way round
  pub waiter_put_more : (state : LocalState) → KeepsStreamsAt plan s state i → fork_at plan s state i ≡ 0 → token_at plan s state i ≡ 0 → forks_in (traffic_at state i).taken < requests_in (traffic_at state i).put
  waiter_put_more state keeps = waiter_asked (is_lower_at plan s i) (fork_at plan s state i) (token_at plan s state i) (forks_in (traffic_at state i).put) (forks_in (traffic_at state i).taken)
      (requests_in (traffic_at state i).put) (requests_in (traffic_at state i).taken) (counted state keeps) keeps.given_when_asked

  -- ---- from one state to another

  -- with the token here, a meal begins only with a clean fork
  pub begins_clean : (state : LocalState) → i < length state.traffic → token_at plan s state i ≡ 1 → may plan s state Begin ≡ true → is_dirty (hand_at s state i) ≡ true → ⊥
  begins_clean state within one_token h dirty =
      let ready : is_ready plan s state i ≡ true = ap (is_ready plan s state) (sym (zero-add i)) ∙ list_all-range (is_ready plan s state) 0 (length state.traffic) i (and_parts _ _ h).1 within in
      elim (or_cases (not (is_dirty (hand_at s state i))) (token_at plan s state i == 0) (and_parts (fork_at plan s state i == 1) (not (is_dirty (hand_at s state i)) || token_at plan s state i == 0) ready).1) [
        | inl clean ↦ true≢false (sym dirty ∙ not-true (is_dirty (hand_at s state i)) clean)
        | inr none ↦ none_is_not_one (token_at plan s state i) (eqb-true (token_at plan s state i) 0 none) one_token
      ]

  -- as long as a fork is not given, and no meal begins, the hand stays the same
  pub hand_stays : (old new : LocalState) → KeepsStreamsAt plan s old i → KeepsStreamsAt plan s new i → IsLonger (traffic_at old i).taken (traffic_at new i).taken
      → forks_in (traffic_at new i).put ≡ forks_in (traffic_at old i).put → fork_at plan s old i ≡ 1 → new.ate ≡ old.ate → (fork_at plan s new i ≡ 1) × (hand_at s new i ≡ hand_at s old i)
  hand_stays old new was is longer given one ate =
      let taken : forks_in (traffic_at new i).taken ≡ forks_in (traffic_at old i).taken + forks_in longer.more = ap forks_in longer.is ∙ forks_in-append (traffic_at old i).taken longer.more in
      let no_more : forks_in longer.more ≡ 0 = omega (arith, was.forks_counted, is.forks_counted, is.one_fork) in
      let last : last_log_or [] (traffic_at new i).taken ≡ last_log_or [] (traffic_at old i).taken =
      ap (last_log_or []) longer.is ∙ last_log_or-append [] (traffic_at old i).taken longer.more ∙ last_log_or-none (last_log_or [] (traffic_at old i).taken) longer.more no_more in (
        omega (arith, was.forks_counted, is.forks_counted),
        ap (λ (n : ℕ). with_meals_to s n (last_log_or [] (traffic_at new i).taken)) ate ∙ ap (λ (log : List Entry). with_meals_to s old.ate log) last,
      )

-- ---- a step

longer_taken : (traffics : List Traffic) (k j : ℕ) (traffic : Traffic) → IsLonger (get_or traffics k no_traffic).taken traffic.taken → IsLonger (get_or traffics j no_traffic).taken (get_or (slice_set traffics k traffic) j no_traffic).taken
longer_taken traffics k j traffic longer = elim (set_cases traffics k j traffic no_traffic) [
  | inl same ↦ subst (λ (x : Traffic). IsLonger (get_or traffics j no_traffic).taken x.taken) (sym same) (longer_same (get_or traffics j no_traffic).taken)
  | inr w ↦ subst (λ (x : Traffic). IsLonger (get_or traffics j no_traffic).taken x.taken) (sym w.1)
      (subst (λ (x : ℕ). IsLonger (get_or traffics x no_traffic).taken traffic.taken) (sym w.0) longer)
]

-- each step only adds to what was taken
pub step_takes : (plan : SeenPlan) (s : ℕ) (state : LocalState) (step : Step) (j : ℕ) → IsLonger (traffic_at state j).taken (traffic_at (after plan s state step) j).taken
step_takes plan s state step j = by_moves plan s state (λ new. IsLonger (traffic_at state j).taken (traffic_at new j).taken) (step_shape step) (after plan s state step) (moved plan s state step)
    (λ i l is. longer_taken state.traffic i j _ (longer_same (traffic_at state i).taken))
    (λ i l is. longer_taken state.traffic i j _ (record { more = l ∷ []; is = refl }))
    (λ same is. subst (λ (t : List Traffic). IsLonger (traffic_at state j).taken (get_or t j no_traffic).taken) (sym same) (longer_same (traffic_at state j).taken))

-- a step begins a meal, or no meal more has begun
pub begins_or_not : (plan : SeenPlan) (s : ℕ) (state : LocalState) (step : Step) → (step ≡ Begin) ⊎ ((after plan s state step).ate ≡ state.ate)
begins_or_not plan s state Begin = inl refl
begins_or_not plan s state step = inr refl
