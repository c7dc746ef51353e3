-- What a step of one site does to the precedence at its edges: Begin puts the other end first, and no other step
-- changes it.
use Rattle.std.proofs.Common.{◌≡◌, ◌≢◌, ◌⊎◌, ℕ, ◌+◌, ◌<◌, ◌≤◌, Bool, true, false, cond, not, ◌||◌, ◌==◌, nat_lt, List, [], ◌∷◌, ◌++◌, length, get_or, slice_set, refl, sym, ◌∙◌, ap, inl, inr, arith, zero-add}
use Rattle.std.proofs.lemmas.Bool.{and_parts, not-true, cond-true, cond-false, eq-eqb, ne_eqb, eqb-true, le-ltb, lt-ltb}
use Rattle.dine_token.specs.declared.log_entry.Entry.{Entry}
use Rattle.dine_token.specs.Log.{is_dirty, location_of, meals_of}
use Rattle.dine_token.proofs.shared.Logs.{is_dirty-push_meal}
use Rattle.dine_graph.specs.Plan.{SeenPlan, lo_of, hi_of}
use Rattle.dine_rules.specs.declared.letters.Letter.{Letter}
use Rattle.dine_rules.specs.declared.letters.Letter.TheVariants as letter
use Rattle.dine_rules.specs.Letters.{forks_in, has_done, has_close, last_log_or}
use Rattle.dine_rules.specs.Local.{LocalState, Traffic, no_traffic, traffic_at, edge_at, is_eating}
use Rattle.dine_rules.specs.Holdings.{fork_at, token_at, hand_at, hand, with_meals_to}
use Rattle.dine_rules.specs.Breach.{was_sent_to, is_fork_of, has_all_of_neighbour}
use Rattle.dine_rules.specs.Steps.{Step, Give, Ask, Hungry, Begin, End, Quit, Done, Close, Break, Take, after, may, is_open, is_ready, given_fork, with_put, with_taken}
use Rattle.dine_rules.specs.Streams.{KeepsStreams}
use Rattle.dine_rules.proofs.shared.lists.Counting.{forks_in-append, last_log_or-append}
use Rattle.dine_rules.proofs.shared.one_place.Hands.{hand-same, hand-more}
use Rattle.dine_rules.proofs.shared.one_site.SiteSteps.{list_all-range}
use Rattle.dine_rules.proofs.shared.counting.Persistence.{set_cases}
use Rattle.dine_rules.proofs.shared.precedence.Preference.{lower_first, lower_first_at, low_place, high_place, IsBalanced}

-- ---- a place of the site that acts

module _ (plan : SeenPlan) (s i : ℕ) where
  -- no Fork came or went, and the hand is as dirty as it was
  pub record IsStill (old new : LocalState) : Type 0 where
    pub puts : forks_in (traffic_at new i).put ≡ forks_in (traffic_at old i).put
    pub takes : forks_in (traffic_at new i).taken ≡ forks_in (traffic_at old i).taken
    pub dirt : is_dirty (hand_at s new i) ≡ is_dirty (hand_at s old i)

  -- the fork was held dirty, and went
  pub record IsGiven (old new : LocalState) : Type 0 where
    pub held : fork_at plan s old i ≡ 1
    pub dirty : is_dirty (hand_at s old i) ≡ true
    pub puts : forks_in (traffic_at new i).put ≡ forks_in (traffic_at old i).put + 1
    pub takes : forks_in (traffic_at new i).taken ≡ forks_in (traffic_at old i).taken

  -- the fork came, clean
  pub record IsTaken (old new : LocalState) : Type 0 where
    pub none : fork_at plan s old i ≡ 0
    pub puts : forks_in (traffic_at new i).put ≡ forks_in (traffic_at old i).put
    pub takes : forks_in (traffic_at new i).taken ≡ forks_in (traffic_at old i).taken + 1
    pub clean : is_dirty (hand_at s new i) ≡ false

  -- the fork is held, dirty by a meal
  pub record IsEaten (new : LocalState) : Type 0 where
    pub held : fork_at plan s new i ≡ 1
    pub dirty : is_dirty (hand_at s new i) ≡ true

  abbrev pub Change : LocalState → LocalState → Type 0
  Change old new = IsStill old new ⊎ (IsGiven old new ⊎ IsTaken old new)

  same_still : (old new : LocalState) → traffic_at new i ≡ traffic_at old i → new.ate ≡ old.ate → IsStill old new
  same_still old new same ate = record {
    puts = ap (λ (x : Traffic). forks_in x.put) same;
    takes = ap (λ (x : Traffic). forks_in x.taken) same;
    dirt = ap (λ (x : Traffic). is_dirty (hand s new.ate x)) same ∙ ap (λ (n : ℕ). is_dirty (hand s n (traffic_at old i))) ate;
  }

  -- another place changes, or this one
  set_changes : (state : LocalState) (k : ℕ) (t : Traffic)
      → (i ≡ k → get_or (slice_set state.traffic k t) i no_traffic ≡ t → Change state (record state { traffic = slice_set state.traffic k t }))
      → Change state (record state { traffic = slice_set state.traffic k t })
  set_changes state k t here = elim (set_cases state.traffic k i t no_traffic) [
    | inl same ↦ inl (same_still state (record state { traffic = slice_set state.traffic k t }) same refl)
    | inr w ↦ here w.0 w.1
  ]

  put_changes : (state : LocalState) (k : ℕ) (l : Letter) → forks_in (l ∷ []) ≡ 0 → Change state (with_put k l state)
  put_changes state k l no_fork = set_changes state k (record { put = (traffic_at state k).put ++ l ∷ []; taken = (traffic_at state k).taken }) (λ e is. inl (record {
    puts = omega (arith, ap (λ (x : Traffic). forks_in x.put) is, forks_in-append (traffic_at state k).put (l ∷ []), ap (λ (x : ℕ). forks_in (traffic_at state x).put) e);
    takes = ap (λ (x : Traffic). forks_in x.taken) is ∙ ap (λ (x : ℕ). forks_in (traffic_at state x).taken) (sym e);
    dirt = ap (λ (x : Traffic). is_dirty (hand s state.ate x)) is ∙ ap (λ (x : ℕ). is_dirty (hand_at s state x)) (sym e);
  }))

  taken_changes : (state : LocalState) (k : ℕ) (l : Letter) → forks_in (l ∷ []) ≡ 0 → ((log : List Entry) → last_log_or log (l ∷ []) ≡ log) → Change state (with_taken k l state)
  taken_changes state k l no_fork no_log = set_changes state k (record { put = (traffic_at state k).put; taken = (traffic_at state k).taken ++ l ∷ [] }) (λ e is. inl (record {
    puts = ap (λ (x : Traffic). forks_in x.put) is ∙ ap (λ (x : ℕ). forks_in (traffic_at state x).put) (sym e);
    takes = omega (arith, ap (λ (x : Traffic). forks_in x.taken) is, forks_in-append (traffic_at state k).taken (l ∷ []), ap (λ (x : ℕ). forks_in (traffic_at state x).taken) e);
    dirt = ap (λ (x : Traffic). is_dirty (hand s state.ate x)) is
        ∙ ap (λ (log : List Entry). is_dirty (with_meals_to s state.ate log)) (last_log_or-append [] (traffic_at state k).taken (l ∷ []) ∙ no_log (last_log_or [] (traffic_at state k).taken))
        ∙ ap (λ (x : ℕ). is_dirty (hand_at s state x)) (sym e);
  }))

  give_changes : (state : LocalState) (k : ℕ) → may plan s state (Give k) ≡ true → Change state (after plan s state (Give k))
  give_changes state k h =
      let parts = and_parts _ _ h in
      let within : nat_lt k (length state.traffic) ≡ true = parts.0 in
      let needs = and_parts _ _ parts.1 in
      let front = and_parts _ _ needs.0 in
      let apart : not (is_eating state.phase) ≡ true = front.0 in
      let numbers = and_parts _ _ front.1 in
      let held : fork_at plan s state k ≡ 1 = eqb-true (fork_at plan s state k) 1 numbers.0 in
      let asked : token_at plan s state k ≡ 1 = eqb-true (token_at plan s state k) 1 numbers.1 in
      let rest = and_parts _ _ needs.1 in
      let dirty : is_dirty (hand_at s state k) ≡ true = rest.0 in
      let open_here : is_open plan s state k ≡ true = rest.1 in
      let l : Letter = letter.Fork (given_fork plan s state k) in
      set_changes state k (record { put = (traffic_at state k).put ++ l ∷ []; taken = (traffic_at state k).taken }) (λ e is. inr (inl (record {
        held = ap (λ (x : ℕ). fork_at plan s state x) e ∙ held;
        dirty = ap (λ (x : ℕ). is_dirty (hand_at s state x)) e ∙ dirty;
        puts = omega (arith, ap (λ (x : Traffic). forks_in x.put) is, forks_in-append (traffic_at state k).put (l ∷ []), ap (λ (x : ℕ). forks_in (traffic_at state x).put) e);
        takes = ap (λ (x : Traffic). forks_in x.taken) is ∙ ap (λ (x : ℕ). forks_in (traffic_at state x).taken) (sym e);
      })))

  take_changes : (state : LocalState) (k : ℕ) (l : Letter) → may plan s state (Take k l) ≡ true → Change state (after plan s state (Take k l))
  take_changes state k (letter.Fork fork) h =
      let parts = and_parts _ _ h in
      let within : nat_lt k (length state.traffic) ≡ true = parts.0 in
      let allowing = and_parts _ _ parts.1 in
      let not_closed : not (has_close (traffic_at state k).taken) ≡ true = allowing.0 in
      let allowed = and_parts _ _ allowing.1 in
      let after_done : (not (has_done (traffic_at state k).taken) || has_all_of_neighbour plan s state k fork.log) ≡ true = allowed.1 in
      let rest = and_parts _ _ allowed.0 in
      let log = and_parts _ _ rest.1 in
      let front = and_parts _ _ rest.0 in
      let of_edge : is_fork_of plan (edge_at plan s k) fork ≡ true = front.0 in
      let numbers = and_parts _ _ front.1 in
      let none : fork_at plan s state k ≡ 0 = eqb-true (fork_at plan s state k) 0 numbers.0 in
      let no_token : token_at plan s state k ≡ 0 = eqb-true (token_at plan s state k) 0 numbers.1 in
      let comes : was_sent_to (lo_of plan (edge_at plan s k)) s fork.log ≡ true = log.0 in
      let clean : is_dirty fork.log ≡ false = not-true (is_dirty fork.log) (and_parts (not (is_dirty fork.log)) (location_of (lo_of plan (edge_at plan s k)) fork.log == s) comes).0 in
      let all : meals_of s fork.log ≡ state.ate = eqb-true (meals_of s fork.log) state.ate log.1 in
      set_changes state k (record { put = (traffic_at state k).put; taken = (traffic_at state k).taken ++ letter.Fork fork ∷ [] }) (λ e is. inr (inr (record {
        none = ap (λ (x : ℕ). fork_at plan s state x) e ∙ none;
        puts = ap (λ (x : Traffic). forks_in x.put) is ∙ ap (λ (x : ℕ). forks_in (traffic_at state x).put) (sym e);
        takes = omega (arith, ap (λ (x : Traffic). forks_in x.taken) is, forks_in-append (traffic_at state k).taken (letter.Fork fork ∷ []), ap (λ (x : ℕ). forks_in (traffic_at state x).taken) e);
        clean = ap (λ (x : Traffic). is_dirty (hand s state.ate x)) is
            ∙ ap (λ (log : List Entry). is_dirty (with_meals_to s state.ate log)) (last_log_or-append [] (traffic_at state k).taken (letter.Fork fork ∷ []))
            ∙ ap is_dirty (hand-same s state.ate fork.log all) ∙ clean;
      })))
  take_changes state k (letter.Request edge) h = taken_changes state k (letter.Request edge) refl (λ log. refl)
  take_changes state k letter.Done h = taken_changes state k letter.Done refl (λ log. refl)
  take_changes state k letter.Close h = taken_changes state k letter.Close refl (λ log. refl)

  -- each step but Begin
  pub step_changes : (state : LocalState) (step : Step) → step ≢ Begin → may plan s state step ≡ true → Change state (after plan s state step)
  step_changes state (Give k) other h = give_changes state k h
  step_changes state (Ask k) other h = put_changes state k _ refl
  step_changes state Hungry other h = inl (same_still state (after plan s state Hungry) refl refl)
  step_changes state Begin other h = absurd (other refl)
  step_changes state (End failed) other h = inl (same_still state (after plan s state (End failed)) refl refl)
  step_changes state Quit other h = inl (same_still state (after plan s state Quit) refl refl)
  step_changes state (Done k) other h = put_changes state k letter.Done refl
  step_changes state (Close k) other h = put_changes state k letter.Close refl
  step_changes state (Break k) other h = put_changes state k letter.Close refl
  step_changes state (Take k l) other h = take_changes state k l h

  -- a meal begins with the fork, and leaves it dirty
  pub begin_eats : (state : LocalState) → KeepsStreams plan s state → i < length state.traffic → may plan s state Begin ≡ true → IsEaten (after plan s state Begin)
  begin_eats state keeps within h =
      let ready : is_ready plan s state i ≡ true = ap (is_ready plan s state) (sym (zero-add i)) ∙ list_all-range (is_ready plan s state) 0 (length state.traffic) i (and_parts _ _ h).1 within in
      record {
        held = eqb-true _ _ (and_parts _ _ ready).0;
        dirty = ap is_dirty (hand-more s state.ate (last_log_or [] (traffic_at state i).taken) (keeps.places i within).last_within) ∙ is_dirty-push_meal (hand_at s state i) s (state.ate + 1);
      }

-- ---- precedence, by where the fork is

first_held : (n f F m : ℕ) (d g : Bool) → n ≡ 1 → lower_first (n == 1) (nat_lt f F) (m == 1) d g ≡ not d
first_held n f F m d g h = cond-true (n == 1) (not d) (cond (nat_lt f F) true (cond (m == 1) g false)) (eq-eqb n 1 h)

first_sent : (n f F m : ℕ) (d g : Bool) → n ≡ 0 → f < F → lower_first (n == 1) (nat_lt f F) (m == 1) d g ≡ true
first_sent n f F m d g h k = cond-false (n == 1) (not d) (cond (nat_lt f F) true (cond (m == 1) g false)) (ne_eqb n 1 (λ same. omega arith))
    ∙ cond-true (nat_lt f F) true (cond (m == 1) g false) (lt-ltb f F k)

first_not_low : (n f F m : ℕ) (d g : Bool) → n ≡ 0 → F ≤ f → lower_first (n == 1) (nat_lt f F) (m == 1) d g ≡ cond (m == 1) g false
first_not_low n f F m d g h k = cond-false (n == 1) (not d) (cond (nat_lt f F) true (cond (m == 1) g false)) (ne_eqb n 1 (λ same. omega arith))
    ∙ cond-false (nat_lt f F) true (cond (m == 1) g false) (le-ltb f F k)

first_other : (n f F m : ℕ) (d g : Bool) → n ≡ 0 → F ≤ f → m ≡ 1 → lower_first (n == 1) (nat_lt f F) (m == 1) d g ≡ g
first_other n f F m d g h k l = first_not_low n f F m d g h k ∙ cond-true (m == 1) g false (eq-eqb m 1 l)

first_none : (n f F m : ℕ) (d g : Bool) → n ≡ 0 → F ≤ f → m ≡ 0 → lower_first (n == 1) (nat_lt f F) (m == 1) d g ≡ false
first_none n f F m d g h k l = first_not_low n f F m d g h k ∙ cond-false (m == 1) g false (ne_eqb m 1 (λ same. omega arith))

first_same : (n n' f f' F F' m m' : ℕ) (d d' g g' : Bool) → n ≡ n' → f ≡ f' → F ≡ F' → m ≡ m' → d ≡ d' → g ≡ g' → lower_first (n == 1) (nat_lt f F) (m == 1) d g ≡ lower_first (n' == 1) (nat_lt f' F') (m' == 1) d' g'
first_same n n' f f' F F' m m' d d' g g' a b c e p q = cc

-- ---- an edge of the site that acts

module _ (plan : SeenPlan) (e : ℕ) where
  -- what the lower end holds, and how many Forks came to it
  abbrev low_forks : LocalState → ℕ
  low_forks low = fork_at plan (lo_of plan e) low (low_place plan e)

  abbrev low_came : LocalState → ℕ
  low_came low = forks_in (traffic_at low (low_place plan e)).taken

  abbrev low_dirty : LocalState → Bool
  low_dirty low = is_dirty (hand_at (lo_of plan e) low (low_place plan e))

  -- what the higher end holds, and how many Forks went from it
  abbrev high_forks : LocalState → ℕ
  high_forks high = fork_at plan (hi_of plan e) high (high_place plan e)

  abbrev high_went : LocalState → ℕ
  high_went high = forks_in (traffic_at high (high_place plan e)).put

  abbrev high_dirty : LocalState → Bool
  high_dirty high = is_dirty (hand_at (hi_of plan e) high (high_place plan e))

  -- the fork is at the lower end, on its way there, at the higher end, or on its way there
  at_low : (low high : LocalState) → low_forks low ≡ 1 → lower_first_at plan e low high ≡ not (low_dirty low)
  at_low low high h = first_held (low_forks low) (low_came low) (high_went high) (high_forks high) (low_dirty low) (high_dirty high) h

  to_low : (low high : LocalState) → low_forks low ≡ 0 → low_came low < high_went high → lower_first_at plan e low high ≡ true
  to_low low high h k = first_sent (low_forks low) (low_came low) (high_went high) (high_forks high) (low_dirty low) (high_dirty high) h k

  at_high : (low high : LocalState) → IsBalanced plan e low high → high_forks high ≡ 1 → lower_first_at plan e low high ≡ high_dirty high
  at_high low high b h = first_other (low_forks low) (low_came low) (high_went high) (high_forks high) (low_dirty low) (high_dirty high) (omega (arith, b)) (omega (arith, b)) h

  to_high : (low high : LocalState) → low_forks low ≡ 0 → high_went high ≤ low_came low → high_forks high ≡ 0 → lower_first_at plan e low high ≡ false
  to_high low high h k l = first_none (low_forks low) (low_came low) (high_went high) (high_forks high) (low_dirty low) (high_dirty high) h k l

  -- a step of the lower end
  pub low_changes : (low new high : LocalState) → IsBalanced plan e low high → IsBalanced plan e new high → Change plan (lo_of plan e) (low_place plan e) low new → lower_first_at plan e new high ≡ lower_first_at plan e low high
  low_changes low new high b b' (inl w) = first_same (low_forks new) (low_forks low) (low_came new) (low_came low) (high_went high) (high_went high) (high_forks high) (high_forks high) (low_dirty new) (low_dirty low) (high_dirty high) (high_dirty high)
      (omega (arith, b.low_counted, b'.low_counted, w.puts, w.takes)) w.takes refl refl w.dirt refl
  low_changes low new high b b' (inr (inl w)) =
      to_high new high (omega (arith, b, b', w)) (omega (arith, b, b', w)) (omega (arith, b, b', w))
      ∙ sym (at_low low high w.held ∙ ap not w.dirty)
  low_changes low new high b b' (inr (inr w)) =
      at_low new high (omega (arith, b, b', w)) ∙ ap not w.clean
      ∙ sym (to_low low high w.none (omega (arith, b, b', w)))

  -- a step of the higher end
  pub high_changes : (low high new : LocalState) → IsBalanced plan e low high → IsBalanced plan e low new → Change plan (hi_of plan e) (high_place plan e) high new → lower_first_at plan e low new ≡ lower_first_at plan e low high
  high_changes low high new b b' (inl w) = first_same (low_forks low) (low_forks low) (low_came low) (low_came low) (high_went new) (high_went high) (high_forks new) (high_forks high) (low_dirty low) (low_dirty low) (high_dirty new) (high_dirty high)
      refl refl w.puts (omega (arith, b.high_counted, b'.high_counted, w.puts, w.takes)) refl w.dirt
  high_changes low high new b b' (inr (inl w)) =
      to_low low new (omega (arith, b, b', w)) (omega (arith, b, b', w))
      ∙ sym (at_high low high b w.held ∙ w.dirty)
  high_changes low high new b b' (inr (inr w)) =
      at_high low new b' (omega (arith, b, b', w)) ∙ w.clean
      ∙ sym (to_high low high (omega (arith, b, b', w)) (omega (arith, b, b', w)) w.none)

  -- a meal of an end puts the other end first
  pub low_eats : (low high : LocalState) → IsEaten plan (lo_of plan e) (low_place plan e) low → lower_first_at plan e low high ≡ false
  low_eats low high w = at_low low high w.held ∙ ap not w.dirty

  pub high_eats : (low high : LocalState) → IsBalanced plan e low high → IsEaten plan (hi_of plan e) (high_place plan e) high → lower_first_at plan e low high ≡ true
  high_eats low high b w = at_high low high b w.held ∙ w.dirty
