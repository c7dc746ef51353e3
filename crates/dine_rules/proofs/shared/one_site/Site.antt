-- The places of a site's state, and what all of them keep.
use Rattle.std.proofs.Common.{◌≡◌, ℕ, zero, suc, ◌+◌, ◌-◌, ◌<◌, ◌≤◌, Bool, true, false, cond, not, ◌&&◌, ◌||◌, ◌==◌, List, [], ◌∷◌, map, get_or, refl, sym, ◌∙◌, ap, subst, inl, inr, arith}
use Rattle.std.proofs.lemmas.Bool.{false≢true, true≢false, and_parts, or_from, not-true, cases_Bool, cond-true, cond-false, eqb-true, eq-eqb, ne_eqb, false_from_ne_true, and_from, or_left, or_right}
use Rattle.std.proofs.lemmas.List.{length-map}
use Rattle.dine_token.specs.declared.log_entry.Entry.{Entry}
use Rattle.dine_token.specs.Log.{is_dirty, location_of}
use Rattle.dine_token.proofs.shared.Lawfulness.{IsLawful-none}
use Rattle.dine_graph.specs.Plan.{SeenPlan, IsPlan, site_count, edges_of, job_count, lo_of, hi_of}
use Rattle.dine_rules.specs.declared.letters.Letter.{Letter}
use Rattle.dine_rules.specs.declared.phase.Phase.TheVariants.{Thinking}
use Rattle.dine_rules.specs.Letters.{forks_in, requests_in, last_log_or}
use Rattle.dine_rules.specs.Local.{LocalState, Traffic, no_traffic, traffic_at, start_of, edge_at, neighbour_at}
use Rattle.dine_rules.specs.Holdings.{fork_at, token_at, hand_at, with_meals_to}
use Rattle.dine_rules.specs.Breach.{was_sent_to}
use Rattle.dine_rules.specs.Values.{AreValuesChained}
use Rattle.dine_rules.specs.Streams.{KeepsStreamsAt, KeepsStreams, ends_at_place, due_at_place, has_asked_since_meal, IsLawfulStream, logs_of}
use Rattle.dine_rules.proofs.shared.lists.Counting.{length-logs_of, last_log_or-none, last_log_or-some, last_log_or-at, forks_in_turn, none_or_some}
use Rattle.dine_rules.proofs.shared.one_place.Hands.{location_of-hand}
use Rattle.dine_rules.proofs.shared.one_place.Placed.{IsPlaced, placed}
use Rattle.dine_rules.proofs.one_place.Held.{Spot, IsSpot}
use Rattle.dine_rules.proofs.one_place.Chains.{IsLastTaken}
use Rattle.dine_rules.proofs.shared.one_place.Keeping.{Keeps, EachFork}

-- place i of a site
abbrev pub spot_at : SeenPlan → ℕ → ℕ → Spot
spot_at plan s i = record {
  edge = edge_at plan s i;
  lower = lo_of plan (edge_at plan s i) == s;
  higher = hi_of plan (edge_at plan s i) == s;
  site = s;
  other = neighbour_at plan s i;
  ends = ends_at_place plan s i;
  due = due_at_place plan s i;
  due_here = job_count plan s;
  due_there = job_count plan (neighbour_at plan s i);
}

pub spot_is : (plan : SeenPlan) (s i : ℕ) → IsPlaced plan s i → IsSpot (spot_at plan s i)
spot_is plan s i is_placed = record {
  ordered = is_placed.ordered;
  sides = elim is_placed.sides [
    | inl w ↦ inl (record {
      is_lower = eq-eqb _ _ w.0;
      not_higher = ne_eqb _ _ (λ e. omega (arith, is_placed.ordered, w.0));
      here = sym w.0;
      there = w.1;
      due_own = ap (λ (x : ℕ). job_count plan x) (sym w.0);
      due_other = ap (λ (x : ℕ). job_count plan x) w.1;
    })
    | inr w ↦ inr (record {
      not_lower = ne_eqb _ _ (λ e. omega (arith, is_placed.ordered, w.0));
      is_higher = eq-eqb _ _ w.0;
      here = sym w.0;
      there = w.1;
      due_own = ap (λ (x : ℕ). job_count plan x) (sym w.0);
      due_other = ap (λ (x : ℕ). job_count plan x) w.1;
    })
  ];
}

-- ---- which end, in numbers

pub higher_is : (spot : Spot) → IsSpot spot → not spot.lower ≡ spot.higher
higher_is spot is_spot = elim is_spot.sides [
  | inl w ↦ ap not w.is_lower ∙ sym w.not_higher
  | inr w ↦ ap not w.not_lower ∙ sym w.is_higher
]

pub one_end : (spot : Spot) → IsSpot spot → cond spot.lower 1 0 + cond spot.higher 1 0 ≡ 1
one_end spot is_spot = elim is_spot.sides [
  | inl w ↦ omega (arith, cond-true {A = ℕ} spot.lower 1 0 w.is_lower, cond-false {A = ℕ} spot.higher 1 0 w.not_higher)
  | inr w ↦ omega (arith, cond-false {A = ℕ} spot.lower 1 0 w.not_lower, cond-true {A = ℕ} spot.higher 1 0 w.is_higher)
]

pub token_end : (spot : Spot) → IsSpot spot → cond {A = ℕ} spot.lower 0 1 ≡ cond {A = ℕ} spot.higher 1 0
token_end spot is_spot = elim is_spot.sides [
  | inl w ↦ cond-true {A = ℕ} spot.lower 0 1 w.is_lower ∙ sym (cond-false {A = ℕ} spot.higher 1 0 w.not_higher)
  | inr w ↦ cond-false {A = ℕ} spot.lower 0 1 w.not_lower ∙ sym (cond-true {A = ℕ} spot.higher 1 0 w.is_higher)
]

-- ---- who is owed a meal

abbrev owed : ℕ → ℕ → Bool → Bool
owed fork token dirty = (fork == 0 && token == 0) || (fork == 1 && not dirty)

not_owed : (fork token : ℕ) (dirty : Bool) → (fork ≡ 0 → token ≡ 0 → ⊥) → (fork ≡ 1 → dirty ≡ false → ⊥) → owed fork token dirty ≡ false
not_owed fork token dirty waits clean = or_from _ _
    (false_from_ne_true _ (λ h. let w = and_parts _ _ h in waits (eqb-true _ _ w.0) (eqb-true _ _ w.1)))
    (false_from_ne_true _ (λ h. let w = and_parts _ _ h in clean (eqb-true _ _ w.0) (not-true dirty w.1)))

asks_no_more : (R ate fork token : ℕ) (dirty : Bool) → R ≤ ate + cond (owed fork token dirty) 1 0 → (fork ≡ 0 → token ≡ 0 → ⊥) → (fork ≡ 1 → dirty ≡ false → ⊥) → R ≤ ate
asks_no_more R ate fork token dirty h waits clean = omega (arith, cond-false {A = ℕ} (owed fork token dirty) 1 0 (not_owed fork token dirty waits clean))

asks_once : (R ate : ℕ) (b : Bool) → R ≤ ate + cond b 1 0 → R ≤ ate + 1
asks_once R ate true h = h
asks_once R ate false h = omega arith

asks_so_often : (R ate fork token : ℕ) (dirty : Bool) → R ≤ ate + 1 → ((fork ≡ 0 → token ≡ 0 → ⊥) → (fork ≡ 1 → dirty ≡ false → ⊥) → R ≤ ate) → R ≤ ate + cond (owed fork token dirty) 1 0
asks_so_often R ate fork token dirty once more = elim (cases_Bool (owed fork token dirty)) [
  | inl is_owed ↦ omega (arith, cond-true {A = ℕ} (owed fork token dirty) 1 0 is_owed)
  | inr is_not ↦ omega (
    arith,
    cond-false {A = ℕ} (owed fork token dirty) 1 0 is_not,
    more
        (λ e f. true≢false (sym (or_left _ _ (and_from _ _ (eq-eqb fork 0 e) (eq-eqb token 0 f))) ∙ is_not))
        (λ e f. true≢false (sym (or_right _ _ (and_from _ _ (eq-eqb fork 1 e) (ap not f))) ∙ is_not)),
  )
]

-- ---- the last log taken

pub last_came_here : (lower s : ℕ) (taken : List Letter) → EachFork (λ fork. was_sent_to lower s fork.log ≡ true) taken → 1 ≤ forks_in taken → was_sent_to lower s (last_log_or [] taken) ≡ true
last_came_here lower s taken each some =
    let w = last_log_or-some [] taken some in
    subst (λ (l : List Entry). was_sent_to lower s l ≡ true) (sym w.3) (each w.0 w.1 w.2)

last_taken : (lower s : ℕ) (taken : List Letter) → EachFork (λ fork. was_sent_to lower s fork.log ≡ true) taken → IsLastTaken (last_log_or [] taken) (logs_of taken)
last_taken lower s taken each = record {
  none = λ h. last_log_or-none [] taken (omega (arith, length-logs_of taken));
  at = λ k before h n. last_log_or-at [] taken k before h (omega (arith, length-logs_of taken));
  clean = λ h. not-true _ (and_parts _ _ (last_came_here lower s taken each (omega (arith, length-logs_of taken)))).0;
}

-- a fork in hand is at the site
in_hand_here : (spot : Spot) (ate F : ℕ) (taken : List Letter) → IsSpot spot → EachFork (λ fork. was_sent_to spot.ends.0 spot.site fork.log ≡ true) taken → cond spot.lower 1 0 + forks_in taken - F ≡ 1
    → location_of spot.ends.0 (with_meals_to spot.site ate (last_log_or [] taken)) ≡ spot.site
in_hand_here spot ate F taken is_spot each one_fork = location_of-hand spot.ends.0 spot.site ate (last_log_or [] taken) ∙ elim (none_or_some taken) [
  | inl none ↦ ap (λ (l : List Entry). location_of spot.ends.0 l) (last_log_or-none [] taken none) ∙ elim is_spot.sides [
    | inl w ↦ sym w.here
    | inr w ↦ absurd (omega (arith, cond-false {A = ℕ} spot.lower 1 0 w.not_lower))
  ]
  | inr some ↦ eqb-true _ _ (and_parts _ _ (last_came_here spot.ends.0 spot.site taken each some)).1
]

-- ---- from the definition, and back

module _ (plan : SeenPlan) (s : ℕ) (state : LocalState) (i : ℕ) where
  abbrev KeepsHere : Type 0
  KeepsHere = Keeps (spot_at plan s i) state.phase state.ate state.has_quit (traffic_at state i).put (traffic_at state i).taken

  pub Keeps-from : IsPlaced plan s i → KeepsStreamsAt plan s state i → KeepsHere
  Keeps-from is_placed k =
      let is_spot = spot_is plan s i is_placed in
      let taken_lawful = subst (λ (b : Bool). IsLawfulStream b (traffic_at state i).taken) (higher_is (spot_at plan s i) is_spot) k.taken_lawful in
      let puts = forks_in_turn (spot_at plan s i).lower (traffic_at state i).put k.put_lawful.alternating in
      let takes = forks_in_turn (spot_at plan s i).higher (traffic_at state i).taken taken_lawful.alternating in
      record {
        balanced = record {
          counts = record {
            one_end = one_end (spot_at plan s i) is_spot;
            forks_counted = k.forks_counted;
            tokens_counted = k.tokens_counted ∙ ap (λ (x : ℕ). x + requests_in (traffic_at state i).taken) (token_end (spot_at plan s i) is_spot);
            one_fork = k.one_fork;
            one_token = k.one_token;
            given = k.given_when_asked;
            comes = k.comes_when_asked;
            put_turn = puts.0;
            put_turn_next = puts.1;
            taken_turn = takes.0;
            taken_turn_next = takes.1;
          };
          held = record {
            hand_lawful = k.hand_lawful;
            hand_here = λ e. in_hand_here (spot_at plan s i) state.ate (forks_in (traffic_at state i).put) (traffic_at state i).taken is_spot k.forks_come_here e;
            clean_is_hungry = k.clean_is_hungry;
            waiter_is_hungry = k.waiter_is_hungry;
            asker_has_left = k.asker_has_left;
            asks_once_more = asks_once _ _ (has_asked_since_meal plan s state i) k.requests_within;
            requests_within = asks_no_more _ _ (fork_at plan s state i) (token_at plan s state i) (is_dirty (hand_at s state i)) k.requests_within;
            last_within = k.last_within;
            all_sent = k.put_chained.last;
          };
          chained = record { first = k.put_chained.first; next = k.put_chained.next; answers = k.put_chained.answers };
          last_is = last_taken (lo_of plan (edge_at plan s i)) s (traffic_at state i).taken k.forks_come_here;
          puts = length-logs_of (traffic_at state i).put;
          takes = length-logs_of (traffic_at state i).taken;
        };
        puts = record {
          lawful = k.put_lawful;
          forks = k.put_forks;
          requests = k.put_requests;
          done_after_all = k.done_after_all;
          done_thinks = k.done_thinks;
        };
        takes = record {
          lawful = taken_lawful;
          orderly = k.taken_orderly;
          forks = k.taken_forks;
          requests = k.taken_requests;
          come_here = k.forks_come_here;
          closed_after = k.closed_after;
        };
      }

  pub Keeps-to : IsPlaced plan s i → KeepsHere → AreValuesChained plan s (edge_at plan s i) (traffic_at state i) → KeepsStreamsAt plan s state i
  Keeps-to is_placed k values =
      let is_spot = spot_is plan s i is_placed in
      record {
        put_lawful = k.puts.lawful;
        put_chained = record { first = k.balanced.chained.first; next = k.balanced.chained.next; answers = k.balanced.chained.answers; last = k.balanced.held.all_sent };
        put_values = values;
        put_forks = k.puts.forks;
        put_requests = k.puts.requests;
        taken_lawful = subst (λ (b : Bool). IsLawfulStream b (traffic_at state i).taken) (sym (higher_is (spot_at plan s i) is_spot)) k.takes.lawful;
        taken_orderly = k.takes.orderly;
        taken_forks = k.takes.forks;
        taken_requests = k.takes.requests;
        forks_come_here = k.takes.come_here;
        last_within = k.balanced.held.last_within;
        forks_counted = k.balanced.counts.forks_counted;
        tokens_counted = k.balanced.counts.tokens_counted ∙ ap (λ (x : ℕ). x + requests_in (traffic_at state i).taken) (sym (token_end (spot_at plan s i) is_spot));
        one_fork = k.balanced.counts.one_fork;
        one_token = k.balanced.counts.one_token;
        given_when_asked = k.balanced.counts.given;
        comes_when_asked = k.balanced.counts.comes;
        hand_lawful = k.balanced.held.hand_lawful;
        clean_is_hungry = k.balanced.held.clean_is_hungry;
        waiter_is_hungry = k.balanced.held.waiter_is_hungry;
        asker_has_left = k.balanced.held.asker_has_left;
        requests_within = asks_so_often _ _ (fork_at plan s state i) (token_at plan s state i) (is_dirty (hand_at s state i)) k.balanced.held.asks_once_more k.balanced.held.requests_within;
        done_after_all = k.puts.done_after_all;
        done_thinks = k.puts.done_thinks;
        closed_after = k.takes.closed_after;
      }

-- ---- the start

pub Keeps-start : (spot : Spot) → IsSpot spot → Keeps spot Thinking 0 false [] []
Keeps-start spot is_spot =
    let one = one_end spot is_spot in
    record {
      balanced = record {
        counts = record {
          one_end = one;
          forks_counted = omega arith;
          tokens_counted = omega arith;
          one_fork = omega arith;
          one_token = omega arith;
          given = omega arith;
          comes = omega arith;
          put_turn = omega arith;
          put_turn_next = omega arith;
          taken_turn = omega arith;
          taken_turn_next = omega arith;
        };
        held = record {
          hand_lawful = λ e. IsLawful-none spot.ends spot.due;
          hand_here = λ e. elim is_spot.sides [
            | inl w ↦ sym w.here
            | inr w ↦ absurd (omega (arith, cond-false {A = ℕ} spot.lower 1 0 w.not_lower))
          ];
          clean_is_hungry = λ e clean. absurd (true≢false clean);
          waiter_is_hungry = λ e f. absurd (omega arith);
          asker_has_left = λ e f. absurd (omega arith);
          asks_once_more = omega arith;
          requests_within = λ _ _. omega arith;
          last_within = omega arith;
          all_sent = λ e. refl;
        };
        chained = record { first = λ low log h. absurd cc; next = λ low k log h. absurd cc; answers = λ high k log h. absurd cc };
        last_is = record { none = λ h. refl; at = λ k before h n. absurd cc; clean = λ h. absurd (omega arith) };
        puts = refl;
        takes = refl;
      };
      puts = record {
        lawful = record { alternating = refl; done_last = refl; close_last = refl };
        forks = λ k fork h. absurd cc;
        requests = λ k e h. absurd cc;
        done_after_all = λ h. absurd (false≢true h);
        done_thinks = λ h. absurd (false≢true h);
      };
      takes = record {
        lawful = record { alternating = refl; done_last = refl; close_last = refl };
        orderly = refl;
        forks = λ k fork h. absurd cc;
        requests = λ k e h. absurd cc;
        come_here = λ k fork h. absurd cc;
        closed_after = λ h. absurd (false≢true h);
      };
    }

-- no Fork is put yet
no_values : (plan : SeenPlan) (s edge : ℕ) → AreValuesChained plan s edge no_traffic
no_values plan s edge = record { first = λ low fork h. absurd cc; next = λ low k fork h. absurd cc; answers = λ high k fork h. absurd cc }

pub no_traffic_yet : (edges : List ℕ) (i : ℕ) → get_or (map (λ edge. no_traffic) edges) i no_traffic ≡ no_traffic
no_traffic_yet [] i = refl
no_traffic_yet (edge ∷ edges) zero = refl
no_traffic_yet (edge ∷ edges) (suc i) = no_traffic_yet edges i

pub start_keeps : (plan : SeenPlan) (s : ℕ) → IsPlan plan → s < site_count plan → KeepsStreams plan s (start_of plan s)
start_keeps plan s is_plan within = record {
  places = λ i h.
      let is_placed = placed plan s i is_plan (omega (arith, length-map (edges_of plan s) (λ edge. no_traffic))) in
      Keeps-to plan s (start_of plan s) i is_placed
      (subst (λ (t : Traffic). Keeps (spot_at plan s i) Thinking 0 false t.put t.taken) (sym (no_traffic_yet (edges_of plan s) i)) (Keeps-start (spot_at plan s i) (spot_is plan s i is_placed)))
      (subst (AreValuesChained plan s (edge_at plan s i)) (sym (no_traffic_yet (edges_of plan s) i)) (no_values plan s (edge_at plan s i)));
  every_place = length-map (edges_of plan s) (λ edge. no_traffic);
  ate_within = omega arith;
  hungry_has_left = λ h. absurd (false≢true h);
  eater_has_begun = λ h. absurd (false≢true h);
  must_drop = λ h. absurd (false≢true h);
  has_dropped = λ h. absurd (false≢true h);
  quits_once = λ h. refl;
}
