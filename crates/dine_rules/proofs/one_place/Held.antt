-- What a site keeps of the fork and the token at one place, over plain numbers and logs.
use Rattle.std.proofs.Common.{◌≡◌, ◌⊎◌, ℕ, ◌+◌, ◌-◌, ◌<◌, ◌≤◌, Bool, true, false, List, [], ◌∷◌, ◌++◌, refl, sym, ◌∙◌, ap, subst, inl, inr, arith}
use Rattle.std.proofs.lemmas.Bool.{false≢true}
use Rattle.dine_token.specs.declared.log_entry.Entry.{Entry}
use Rattle.dine_token.specs.declared.log_entry.Entry.TheVariants.{Meal, Move}
use Rattle.dine_token.specs.Log.{is_dirty, location_of, meals_of, moves_of}
use Rattle.dine_token.specs.Lawful.{IsLawful, due_at}
use Rattle.dine_token.proofs.shared.Logs.{is_dirty-push_meal, location_of-push_meal, meals_of-push_other, meals_of-push_move, turn}
use Rattle.dine_token.proofs.shared.Lawfulness.{at_an_end, due_at-lower, due_at-higher, IsLawful-push_meal, IsLawful-push_move}
use Rattle.dine_rules.specs.declared.phase.Phase.{Phase}
use Rattle.dine_rules.specs.Local.{is_hungry}
use Rattle.dine_rules.specs.Holdings.{with_meals_to}
use Rattle.dine_rules.proofs.shared.one_place.Hands.{hand-same, meals_of-hand, hand-more}

-- ---- the place

-- which end the site is; the edge; the site and the other end; the ends of the edge and the meals due, in order and by
-- side
pub record Spot : Type 0 where
  pub edge : ℕ
  pub lower : Bool
  pub higher : Bool
  pub site : ℕ
  pub other : ℕ
  pub ends : ℕ × ℕ
  pub due : ℕ × ℕ
  pub due_here : ℕ
  pub due_there : ℕ

pub record IsAtLower (spot : Spot) : Type 0 where
  pub is_lower : spot.lower ≡ true
  pub not_higher : spot.higher ≡ false
  pub here : spot.site ≡ spot.ends.0
  pub there : spot.other ≡ spot.ends.1
  pub due_own : spot.due_here ≡ spot.due.0
  pub due_other : spot.due_there ≡ spot.due.1

pub record IsAtHigher (spot : Spot) : Type 0 where
  pub not_lower : spot.lower ≡ false
  pub is_higher : spot.higher ≡ true
  pub here : spot.site ≡ spot.ends.1
  pub there : spot.other ≡ spot.ends.0
  pub due_own : spot.due_here ≡ spot.due.1
  pub due_other : spot.due_there ≡ spot.due.0

pub record IsSpot (spot : Spot) : Type 0 where
  pub ordered : spot.ends.0 < spot.ends.1
  pub sides : IsAtLower spot ⊎ IsAtHigher spot

-- the two ends differ
pub other_site : (spot : Spot) → IsSpot spot → spot.site ≡ spot.other → ⊥
other_site spot is_spot same = elim is_spot.sides [
  | inl w ↦ omega (arith, is_spot.ordered, w.here, w.there)
  | inr w ↦ omega (arith, is_spot.ordered, w.here, w.there)
]

pub due_at-here : (spot : Spot) → IsSpot spot → due_at spot.ends spot.due spot.site ≡ spot.due_here
due_at-here spot is_spot = elim is_spot.sides [
  | inl w ↦ due_at-lower spot.ends spot.due spot.site w.here ∙ sym w.due_own
  | inr w ↦ due_at-higher spot.ends spot.due spot.site is_spot.ordered w.here ∙ sym w.due_own
]

pub due_at-there : (spot : Spot) → IsSpot spot → due_at spot.ends spot.due spot.other ≡ spot.due_there
due_at-there spot is_spot = elim is_spot.sides [
  | inl w ↦ due_at-higher spot.ends spot.due spot.other is_spot.ordered w.there ∙ sym w.due_other
  | inr w ↦ due_at-lower spot.ends spot.due spot.other w.there ∙ sym w.due_other
]

-- a lawful fork that is at the site goes to the other end next
pub goes_there : (spot : Spot) (log : List Entry) → IsSpot spot → IsLawful spot.ends spot.due log → location_of spot.ends.0 log ≡ spot.site → spot.other ≡ turn spot.ends.1 spot.ends.0 (moves_of log)
goes_there spot log is_spot lawful here = elim (at_an_end spot.ends spot.due log lawful) [
  | inl w ↦ elim is_spot.sides [
    | inl v ↦ v.there ∙ sym w.1
    | inr v ↦ absurd (omega (arith, is_spot.ordered, w.0, v.here))
  ]
  | inr w ↦ elim is_spot.sides [
    | inl v ↦ absurd (omega (arith, is_spot.ordered, w.0, v.here))
    | inr v ↦ v.there ∙ sym w.1
  ]
]

-- ---- counts

-- F Forks and R Requests put, f Forks and r Requests taken, at an end that starts with L forks and H tokens
pub record Counts (L H F R f r : ℕ) : Type 0 where
  pub one_end : L + H ≡ 1
  pub forks_counted : L + f - F + F ≡ L + f
  pub tokens_counted : H + r - R + R ≡ H + r
  pub one_fork : L + f - F ≤ 1
  pub one_token : H + r - R ≤ 1
  pub given : F ≤ r
  pub comes : f ≤ R
  pub put_turn : F ≤ L + R
  pub put_turn_next : L + R ≤ F + 1
  pub taken_turn : f ≤ H + r
  pub taken_turn_next : H + r ≤ f + 1

pub Counts-give : (L H F R f r : ℕ) → Counts L H F R f r → L + f - F ≡ 1 → H + r - R ≡ 1 → Counts L H (F + 1) R f r
Counts-give L H F R f r c fork token = record {
  one_end = c.one_end;
  forks_counted = omega arith;
  tokens_counted = c.tokens_counted;
  one_fork = omega arith;
  one_token = c.one_token;
  given = omega arith;
  comes = c.comes;
  put_turn = omega arith;
  put_turn_next = omega arith;
  taken_turn = c.taken_turn;
  taken_turn_next = c.taken_turn_next;
}

pub Counts-ask : (L H F R f r : ℕ) → Counts L H F R f r → L + f - F ≡ 0 → H + r - R ≡ 1 → Counts L H F (R + 1) f r
Counts-ask L H F R f r c fork token = record {
  one_end = c.one_end;
  forks_counted = c.forks_counted;
  tokens_counted = omega arith;
  one_fork = c.one_fork;
  one_token = omega arith;
  given = c.given;
  comes = omega arith;
  put_turn = omega arith;
  put_turn_next = omega arith;
  taken_turn = c.taken_turn;
  taken_turn_next = c.taken_turn_next;
}

pub Counts-take_fork : (L H F R f r : ℕ) → Counts L H F R f r → L + f - F ≡ 0 → H + r - R ≡ 0 → Counts L H F R (f + 1) r
Counts-take_fork L H F R f r c fork token = record {
  one_end = c.one_end;
  forks_counted = omega arith;
  tokens_counted = c.tokens_counted;
  one_fork = omega arith;
  one_token = c.one_token;
  given = c.given;
  comes = omega arith;
  put_turn = c.put_turn;
  put_turn_next = c.put_turn_next;
  taken_turn = omega arith;
  taken_turn_next = omega arith;
}

pub Counts-take_request : (L H F R f r : ℕ) → Counts L H F R f r → L + f - F ≡ 1 → H + r - R ≡ 0 → Counts L H F R f (r + 1)
Counts-take_request L H F R f r c fork token = record {
  one_end = c.one_end;
  forks_counted = c.forks_counted;
  tokens_counted = omega arith;
  one_fork = c.one_fork;
  one_token = omega arith;
  given = omega arith;
  comes = c.comes;
  put_turn = c.put_turn;
  put_turn_next = c.put_turn_next;
  taken_turn = omega arith;
  taken_turn_next = omega arith;
}

-- ---- the fork in hand

-- with so many forks and tokens here, R Requests put, and the last logs put and taken
pub record Held (spot : Spot) (phase : Phase) (ate fork token R : ℕ) (last_put last_taken : List Entry) : Type 0 where
  pub hand_lawful : fork ≡ 1 → IsLawful spot.ends spot.due (with_meals_to spot.site ate last_taken)
  pub hand_here : fork ≡ 1 → location_of spot.ends.0 (with_meals_to spot.site ate last_taken) ≡ spot.site
  pub clean_is_hungry : fork ≡ 1 → is_dirty (with_meals_to spot.site ate last_taken) ≡ false → is_hungry phase ≡ true
  pub waiter_is_hungry : fork ≡ 0 → token ≡ 0 → is_hungry phase ≡ true
  pub asker_has_left : fork ≡ 1 → token ≡ 1 → meals_of spot.other (with_meals_to spot.site ate last_taken) < spot.due_there
  pub asks_once_more : R ≤ ate + 1
  pub requests_within : (fork ≡ 0 → token ≡ 0 → ⊥) → (fork ≡ 1 → is_dirty (with_meals_to spot.site ate last_taken) ≡ false → ⊥) → R ≤ ate
  pub last_within : meals_of spot.site last_taken ≤ ate
  pub all_sent : fork ≡ 0 → meals_of spot.site last_put ≡ ate

-- the same of equal numbers and logs
pub Held-along : (spot : Spot) (phase : Phase) (ate fork token R : ℕ) (last_put last_taken : List Entry) (fork' token' R' : ℕ) (last_put' last_taken' : List Entry)
    → fork ≡ fork' → token ≡ token' → R ≡ R' → last_put ≡ last_put' → last_taken ≡ last_taken'
    → Held spot phase ate fork token R last_put last_taken → Held spot phase ate fork' token' R' last_put' last_taken'
Held-along spot phase ate fork token R last_put last_taken fork' token' R' last_put' last_taken' e1 e2 e3 e4 e5 h =
    subst (λ (x : ℕ). Held spot phase ate x token' R' last_put' last_taken') e1
    (subst (λ (x : ℕ). Held spot phase ate fork x R' last_put' last_taken') e2
    (subst (λ (x : ℕ). Held spot phase ate fork token x last_put' last_taken') e3
    (subst (λ (x : List Entry). Held spot phase ate fork token R x last_taken') e4
    (subst (λ (x : List Entry). Held spot phase ate fork token R last_put x) e5 h))))

pub Held-give : (spot : Spot) (phase : Phase) (ate R : ℕ) (last_put last_taken : List Entry)
    → Held spot phase ate 1 1 R last_put last_taken → is_dirty (with_meals_to spot.site ate last_taken) ≡ true
    → Held spot phase ate 0 1 R (with_meals_to spot.site ate last_taken ++ Move spot.other ∷ []) last_taken
Held-give spot phase ate R last_put last_taken h dirty = record {
  hand_lawful = λ e. absurd (omega arith);
  hand_here = λ e. absurd (omega arith);
  clean_is_hungry = λ e. absurd (omega arith);
  waiter_is_hungry = λ e f. absurd (omega arith);
  asker_has_left = λ e. absurd (omega arith);
  asks_once_more = h.asks_once_more;
  requests_within = λ _ _. h.requests_within (λ e f. omega arith) (λ e clean. false≢true (sym clean ∙ dirty));
  last_within = h.last_within;
  all_sent = λ e. meals_of-push_move spot.site (with_meals_to spot.site ate last_taken) spot.other ∙ meals_of-hand spot.site ate last_taken h.last_within;
}

pub Held-ask : (spot : Spot) (phase : Phase) (ate R : ℕ) (last_put last_taken : List Entry)
    → Held spot phase ate 0 1 R last_put last_taken → is_hungry phase ≡ true
    → Held spot phase ate 0 0 (R + 1) last_put last_taken
Held-ask spot phase ate R last_put last_taken h hungry = record {
  hand_lawful = λ e. absurd (omega arith);
  hand_here = λ e. absurd (omega arith);
  clean_is_hungry = λ e. absurd (omega arith);
  waiter_is_hungry = λ e f. hungry;
  asker_has_left = λ e. absurd (omega arith);
  asks_once_more = omega (arith, h.requests_within (λ e f. omega arith) (λ e clean. omega arith));
  requests_within = λ waits _. absurd (waits refl refl);
  last_within = h.last_within;
  all_sent = h.all_sent;
}

pub Held-take_fork : (spot : Spot) (phase : Phase) (ate R : ℕ) (last_put last_taken log : List Entry)
    → Held spot phase ate 0 0 R last_put last_taken → IsLawful spot.ends spot.due log → location_of spot.ends.0 log ≡ spot.site → is_dirty log ≡ false → meals_of spot.site log ≡ ate
    → Held spot phase ate 1 0 R last_put log
Held-take_fork spot phase ate R last_put last_taken log h lawful here clean all =
    let same : with_meals_to spot.site ate log ≡ log = hand-same spot.site ate log all in
    record {
      hand_lawful = λ e. subst (λ (l : List Entry). IsLawful spot.ends spot.due l) (sym same) lawful;
      hand_here = λ e. ap (λ (l : List Entry). location_of spot.ends.0 l) same ∙ here;
      clean_is_hungry = λ e f. h.waiter_is_hungry refl refl;
      waiter_is_hungry = λ e. absurd (omega arith);
      asker_has_left = λ e f. absurd (omega arith);
      asks_once_more = h.asks_once_more;
      requests_within = λ _ owned. absurd (owned refl (ap is_dirty same ∙ clean));
      last_within = omega arith;
      all_sent = λ e. absurd (omega arith);
    }

pub Held-take_request : (spot : Spot) (phase : Phase) (ate R : ℕ) (last_put last_taken : List Entry)
    → Held spot phase ate 1 0 R last_put last_taken → meals_of spot.other (with_meals_to spot.site ate last_taken) < spot.due_there
    → Held spot phase ate 1 1 R last_put last_taken
Held-take_request spot phase ate R last_put last_taken h left = record {
  hand_lawful = h.hand_lawful;
  hand_here = h.hand_here;
  clean_is_hungry = h.clean_is_hungry;
  waiter_is_hungry = λ e. absurd (omega arith);
  asker_has_left = λ e f. left;
  asks_once_more = h.asks_once_more;
  requests_within = λ _ owned. h.requests_within (λ e f. omega arith) owned;
  last_within = h.last_within;
  all_sent = h.all_sent;
}

pub Held-begin : (spot : Spot) (phase new_phase : Phase) (ate token R : ℕ) (last_put last_taken : List Entry) → IsSpot spot
    → Held spot phase ate 1 token R last_put last_taken → ate < spot.due_here
    → Held spot new_phase (ate + 1) 1 token R last_put last_taken
Held-begin spot phase new_phase ate token R last_put last_taken is_spot h left =
    let more : with_meals_to spot.site (ate + 1) last_taken ≡ with_meals_to spot.site ate last_taken ++ Meal spot.site (ate + 1) ∷ [] = hand-more spot.site ate last_taken h.last_within in
    let meals : meals_of spot.site (with_meals_to spot.site ate last_taken) ≡ ate = meals_of-hand spot.site ate last_taken h.last_within in
    let dirty : is_dirty (with_meals_to spot.site (ate + 1) last_taken) ≡ true = ap is_dirty more ∙ is_dirty-push_meal (with_meals_to spot.site ate last_taken) spot.site (ate + 1) in
    record {
      hand_lawful = λ e. subst (λ (l : List Entry). IsLawful spot.ends spot.due l) (sym more)
          (IsLawful-push_meal spot.ends spot.due (with_meals_to spot.site ate last_taken) spot.site (ate + 1) is_spot.ordered (h.hand_lawful e) (h.hand_here e) (omega arith) (omega (arith, due_at-here spot is_spot)));
      hand_here = λ e. ap (λ (l : List Entry). location_of spot.ends.0 l) more ∙ location_of-push_meal spot.ends.0 (with_meals_to spot.site ate last_taken) spot.site (ate + 1) ∙ h.hand_here e;
      clean_is_hungry = λ e clean. absurd (false≢true (sym clean ∙ dirty));
      waiter_is_hungry = λ e. absurd (omega arith);
      asker_has_left = λ e asked.
          let same : meals_of spot.other (with_meals_to spot.site (ate + 1) last_taken) ≡ meals_of spot.other (with_meals_to spot.site ate last_taken) =
          ap (λ (l : List Entry). meals_of spot.other l) more ∙ meals_of-push_other spot.other spot.site (with_meals_to spot.site ate last_taken) (ate + 1) (other_site spot is_spot) in
          omega (arith, h.asker_has_left e asked);
      asks_once_more = omega (arith, h.asks_once_more);
      requests_within = λ _ _. h.asks_once_more;
      last_within = omega (arith, h.last_within);
      all_sent = λ e. absurd (omega arith);
    }

-- another phase, where the site is hungry then, or was not hungry
pub Held-phase : (spot : Spot) (phase new_phase : Phase) (ate fork token R : ℕ) (last_put last_taken : List Entry)
    → Held spot phase ate fork token R last_put last_taken → (is_hungry phase ≡ true → is_hungry new_phase ≡ true)
    → Held spot new_phase ate fork token R last_put last_taken
Held-phase spot phase new_phase ate fork token R last_put last_taken h still = record {
  hand_lawful = h.hand_lawful;
  hand_here = h.hand_here;
  clean_is_hungry = λ e f. still (h.clean_is_hungry e f);
  waiter_is_hungry = λ e f. still (h.waiter_is_hungry e f);
  asker_has_left = h.asker_has_left;
  asks_once_more = h.asks_once_more;
  requests_within = h.requests_within;
  last_within = h.last_within;
  all_sent = h.all_sent;
}

-- the given fork is lawful
pub given_lawful : (spot : Spot) (phase : Phase) (ate R : ℕ) (last_put last_taken : List Entry) → IsSpot spot
    → Held spot phase ate 1 1 R last_put last_taken → is_dirty (with_meals_to spot.site ate last_taken) ≡ true
    → IsLawful spot.ends spot.due (with_meals_to spot.site ate last_taken ++ Move spot.other ∷ [])
given_lawful spot phase ate R last_put last_taken is_spot h dirty =
    IsLawful-push_move spot.ends spot.due (with_meals_to spot.site ate last_taken) spot.other (h.hand_lawful refl) dirty
    (goes_there spot (with_meals_to spot.site ate last_taken) is_spot (h.hand_lawful refl) (h.hand_here refl))
    (omega (arith, h.asker_has_left refl refl, due_at-there spot is_spot))
