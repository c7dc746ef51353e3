-- Which end of an edge has precedence, by what its two ends put and took.
use Rattle.std.proofs.Common.{◌≡◌, ℕ, zero, suc, ◌+◌, ◌-◌, ◌<◌, ◌≤◌, Bool, true, false, cond, not, ◌==◌, nat_lt, List, [], ◌∷◌, ◌++◌, length, get_or, slice_get, Some, unwrap_or, refl, sym, ◌∙◌, ap, subst, inl, inr, arith}
use Rattle.std.specs.Option.{option_or}
use Rattle.std.proofs.lemmas.Bool.{false≢true, cases_Bool, cond-true, cond-false, eq-eqb, ne_eqb, eqb-true, eqb-false, ltb-true, ltb-false, lt-ltb, or_left, or_right}
use Rattle.std.proofs.lemmas.Option.{slice_get-get_or}
use Rattle.dine_token.specs.declared.log_entry.Entry.{Entry}
use Rattle.dine_token.specs.declared.log_entry.Entry.TheVariants.{Move}
use Rattle.dine_token.specs.Log.{is_dirty, location_of, meals_of}
use Rattle.dine_token.proofs.shared.Logs.{is_dirty-push_move, location_of-push_move}
use Rattle.dine_graph.specs.Plan.{SeenPlan, IsPlan, site_count, edge_count, edges_of, lo_of, hi_of, other_of}
use Rattle.dine_rules.specs.declared.letters.Letter.{Letter}
use Rattle.dine_rules.specs.Letters.{forks_in, last_log_or}
use Rattle.dine_rules.specs.Local.{LocalState, traffic_at, edge_at, neighbour_at}
use Rattle.dine_rules.specs.Holdings.{fork_at, hand_at, meals_from}
use Rattle.dine_rules.specs.Streams.{KeepsStreams, is_lower_at, logs_of}
use Rattle.dine_rules.specs.World.{WorldState, state_of, place_of, put_to}
use Rattle.dine_rules.specs.Precedence.{is_sent_to, preferred_in, preferred_end}
use Rattle.dine_rules.proofs.shared.lists.Counting.{prefix_forks, length-logs_of, last_log_or-at}
use Rattle.dine_rules.proofs.shared.links.Across.{edge_at-place_of}
use Rattle.dine_rules.proofs.shared.one_site.InHand.{hand-here}
use Rattle.dine_rules.proofs.shared.links.Near.{near_log}
use Rattle.dine_rules.proofs.shared.links.WorldStreams.{WorldKeeps}

-- ---- over plain logs

-- The lower end has precedence: it holds the fork clean, or the fork is on its way there, or the higher end holds it
-- dirty.
abbrev pub lower_first : Bool → Bool → Bool → Bool → Bool → Bool
lower_first held_low sent_low held_high dirty_low dirty_high = cond held_low (not dirty_low) (cond sent_low true (cond held_high dirty_high false))

-- a log at the lower end, or at the higher
at_low : (lo hi : ℕ) (log : List Entry) → location_of lo log ≡ lo → preferred_in lo hi log ≡ cond (not (is_dirty log)) lo hi
at_low lo hi log here = ap (λ (at : ℕ). cond (is_dirty log) (cond (at == lo) hi lo) at) here ∙ by_dirt (is_dirty log) where
  by_dirt : (dirty : Bool) → cond dirty (cond (lo == lo) hi lo) lo ≡ cond (not dirty) lo hi
  by_dirt true = cond-true (lo == lo) hi lo (eq-eqb lo lo refl)
  by_dirt false = refl

at_high : (lo hi : ℕ) (log : List Entry) → lo < hi → location_of lo log ≡ hi → preferred_in lo hi log ≡ cond (is_dirty log) lo hi
at_high lo hi log ordered here = ap (λ (at : ℕ). cond (is_dirty log) (cond (at == lo) hi lo) at) here ∙ by_dirt (is_dirty log) where
  by_dirt : (dirty : Bool) → cond dirty (cond (hi == lo) hi lo) hi ≡ cond dirty lo hi
  by_dirt true = cond-false (hi == lo) hi lo (ne_eqb hi lo (λ same. omega arith))
  by_dirt false = refl

-- a clean log is at the end
abbrev pub CameTo : ℕ → ℕ → List Entry → Type 0
CameTo lo end log = (is_dirty log ≡ false) × (location_of lo log ≡ end)

-- where the logs of an edge's fork lie
record LogsLie (lo hi : ℕ) (held_low sent_low held_high sent_high : Bool) (hand_low last_low hand_high last_high : List Entry) : Type 0 where
  in_low_hand : held_low ≡ true → location_of lo hand_low ≡ lo
  to_low : sent_low ≡ true → CameTo lo lo last_low
  in_high_hand : held_high ≡ true → location_of lo hand_high ≡ hi
  to_high : sent_high ≡ true → CameTo lo hi last_high
  somewhere : held_low ≡ false → sent_low ≡ false → held_high ≡ false → sent_high ≡ true

preferred_lies : (lo hi : ℕ) (held_low sent_low held_high sent_high : Bool) (hand_low last_low hand_high last_high : List Entry) → lo < hi
    → LogsLie lo hi held_low sent_low held_high sent_high hand_low last_low hand_high last_high
    → preferred_in lo hi (unwrap_or (option_or (near_log held_low sent_low hand_low last_low) (near_log held_high sent_high hand_high last_high)) []) ≡ cond (lower_first held_low sent_low held_high (is_dirty hand_low) (is_dirty hand_high)) lo hi
preferred_lies lo hi true sent_low held_high sent_high hand_low last_low hand_high last_high ordered lie = at_low lo hi hand_low (lie.in_low_hand refl)
preferred_lies lo hi false true held_high sent_high hand_low last_low hand_high last_high ordered lie =
    let w = lie.to_low refl in
    at_low lo hi last_low w.1 ∙ ap (λ (b : Bool). cond (not b) lo hi) w.0
preferred_lies lo hi false false true sent_high hand_low last_low hand_high last_high ordered lie = at_high lo hi hand_high ordered (lie.in_high_hand refl)
preferred_lies lo hi false false false true hand_low last_low hand_high last_high ordered lie =
    let w = lie.to_high refl in
    at_high lo hi last_high ordered w.1 ∙ ap (λ (b : Bool). cond b lo hi) w.0
preferred_lies lo hi false false false false hand_low last_low hand_high last_high ordered lie = absurd (false≢true (lie.somewhere refl refl refl))

-- ---- the last Fork put

came_by_move : (lo to : ℕ) (before meals log : List Entry) → log ≡ before ++ meals ++ Move to ∷ [] → CameTo lo to log
came_by_move lo to before meals log is =
    (ap is_dirty is ∙ is_dirty-push_move (before ++ meals) to, ap (λ (l : List Entry). location_of lo l) is ∙ location_of-push_move lo (before ++ meals) to)

module _ (plan : SeenPlan) (s : ℕ) (state : LocalState) (keeps : KeepsStreams plan s state) (i : ℕ) (within : i < length state.traffic) (lo : ℕ) where
  abbrev put_logs : List (List Entry)
  put_logs = logs_of (traffic_at state i).put

  lower_went : is_lower_at plan s i ≡ true → (k : ℕ) (log : List Entry) → slice_get put_logs k ≡ Some log → k + 1 ≡ forks_in (traffic_at state i).put → CameTo lo (neighbour_at plan s i) log
  lower_went is_lower zero log at last =
      let w = (keeps.places i within).put_chained.first is_lower log at in
      came_by_move lo (neighbour_at plan s i) [] (meals_from s (meals_of s [] + 1) w.meals) log w.is
  lower_went is_lower (suc k) log at last =
      let next : slice_get put_logs (k + 1) ≡ Some log = ap (λ (n : ℕ). slice_get put_logs n) (omega arith) ∙ at in
      let w = (keeps.places i within).put_chained.next is_lower k log next in
      came_by_move lo (neighbour_at plan s i) w.before (meals_from s (meals_of s w.before + 1) w.carries.meals) log w.carries.is

  higher_went : is_lower_at plan s i ≡ false → (k : ℕ) (log : List Entry) → slice_get put_logs k ≡ Some log → k + 1 ≡ forks_in (traffic_at state i).put → CameTo lo (neighbour_at plan s i) log
  higher_went is_higher k log at last =
      let w = (keeps.places i within).put_chained.answers is_higher k log at in
      came_by_move lo (neighbour_at plan s i) w.before (meals_from s (meals_of s w.before + 1) w.carries.meals) log w.carries.is

  -- the last Fork put went clean to the other end
  pub last_went : 1 ≤ forks_in (traffic_at state i).put → CameTo lo (neighbour_at plan s i) (last_log_or [] (traffic_at state i).put)
  last_went some =
      let k : ℕ = forks_in (traffic_at state i).put - 1 in
      let number : k + 1 ≡ forks_in (traffic_at state i).put = omega arith in
      let at : slice_get put_logs k ≡ Some (get_or put_logs k []) = slice_get-get_or put_logs k [] (omega (arith, length-logs_of (traffic_at state i).put)) in
      let is : last_log_or [] (traffic_at state i).put ≡ get_or put_logs k [] = last_log_or-at [] (traffic_at state i).put k (get_or put_logs k []) at number in
      subst (CameTo lo (neighbour_at plan s i)) (sym is) (elim (cases_Bool (is_lower_at plan s i)) [
        | inl is_lower ↦ lower_went is_lower k (get_or put_logs k []) at number
        | inr is_higher ↦ higher_went is_higher k (get_or put_logs k []) at number
      ])

-- ---- an edge

-- the places of an edge at its lower and at its higher end
abbrev pub low_place : SeenPlan → ℕ → ℕ
low_place plan e = place_of plan (lo_of plan e) e

abbrev pub high_place : SeenPlan → ℕ → ℕ
high_place plan e = place_of plan (hi_of plan e) e

-- what holds of the two ends by the plan alone
pub record IsEdge (plan : SeenPlan) (e : ℕ) : Type 0 where
  pub ordered : lo_of plan e < hi_of plan e
  pub low_site : lo_of plan e < site_count plan
  pub high_site : hi_of plan e < site_count plan
  pub low_within : low_place plan e < length (edges_of plan (lo_of plan e))
  pub high_within : high_place plan e < length (edges_of plan (hi_of plan e))
  pub low_edge : edge_at plan (lo_of plan e) (low_place plan e) ≡ e
  pub high_edge : edge_at plan (hi_of plan e) (high_place plan e) ≡ e
  pub from_low : other_of plan e (lo_of plan e) ≡ hi_of plan e
  pub from_high : other_of plan e (hi_of plan e) ≡ lo_of plan e

pub is_edge : (plan : SeenPlan) (e : ℕ) → IsPlan plan → e < edge_count plan → IsEdge plan e
is_edge plan e is_plan within =
    let ordered = is_plan.ordered e within in
    let low = edge_at-place_of plan (lo_of plan e) e within (or_left (lo_of plan e == lo_of plan e) (hi_of plan e == lo_of plan e) (eq-eqb (lo_of plan e) (lo_of plan e) refl)) in
    let high = edge_at-place_of plan (hi_of plan e) e within (or_right (lo_of plan e == hi_of plan e) (hi_of plan e == hi_of plan e) (eq-eqb (hi_of plan e) (hi_of plan e) refl)) in
    record {
      ordered = ordered;
      low_site = omega (arith, is_plan.within e within);
      high_site = is_plan.within e within;
      low_within = low.0;
      high_within = high.0;
      low_edge = low.1;
      high_edge = high.1;
      from_low = cond-true (lo_of plan e == lo_of plan e) (hi_of plan e) (lo_of plan e) (eq-eqb (lo_of plan e) (lo_of plan e) refl);
      from_high = cond-false (lo_of plan e == hi_of plan e) (hi_of plan e) (lo_of plan e) (ne_eqb (lo_of plan e) (hi_of plan e) (λ same. omega arith));
    }

-- the counts of the two ends: each fork is held by one of them, or was put by one and not yet taken by the other
pub record IsBalanced (plan : SeenPlan) (e : ℕ) (low high : LocalState) : Type 0 where
  pub low_counted : fork_at plan (lo_of plan e) low (low_place plan e) + forks_in (traffic_at low (low_place plan e)).put ≡ 1 + forks_in (traffic_at low (low_place plan e)).taken
  pub high_counted : fork_at plan (hi_of plan e) high (high_place plan e) + forks_in (traffic_at high (high_place plan e)).put ≡ forks_in (traffic_at high (high_place plan e)).taken
  pub low_takes : forks_in (traffic_at low (low_place plan e)).taken ≤ forks_in (traffic_at high (high_place plan e)).put
  pub high_takes : forks_in (traffic_at high (high_place plan e)).taken ≤ forks_in (traffic_at low (low_place plan e)).put

-- the lower end of an edge has precedence, by the states of its ends
abbrev pub lower_first_at : SeenPlan → ℕ → LocalState → LocalState → Bool
lower_first_at plan e low high = lower_first (fork_at plan (lo_of plan e) low (low_place plan e) == 1) (nat_lt (forks_in (traffic_at low (low_place plan e)).taken) (forks_in (traffic_at high (high_place plan e)).put))
    (fork_at plan (hi_of plan e) high (high_place plan e) == 1) (is_dirty (hand_at (lo_of plan e) low (low_place plan e))) (is_dirty (hand_at (hi_of plan e) high (high_place plan e)))

module _ (plan : SeenPlan) (is_plan : IsPlan plan) (world : WorldState) (kept : WorldKeeps plan world) (e : ℕ) (within : e < edge_count plan) where
  abbrev low : ℕ
  low = lo_of plan e

  abbrev high : ℕ
  high = hi_of plan e

  abbrev edge_is : IsEdge plan e
  edge_is = is_edge plan e is_plan within

  low_neighbour : neighbour_at plan low (low_place plan e) ≡ high
  low_neighbour = ap (λ (x : ℕ). other_of plan x low) edge_is.low_edge ∙ edge_is.from_low

  high_neighbour : neighbour_at plan high (high_place plan e) ≡ low
  high_neighbour = ap (λ (x : ℕ). other_of plan x high) edge_is.high_edge ∙ edge_is.from_high

  -- what is put to one end is what the other put
  put_to_low : put_to plan world low (low_place plan e) ≡ (traffic_at (state_of world high) (high_place plan e)).put
  put_to_low = ap (λ (x : ℕ). (traffic_at (state_of world x) (place_of plan x (edge_at plan low (low_place plan e)))).put) low_neighbour
      ∙ ap (λ (x : ℕ). (traffic_at (state_of world high) (place_of plan high x)).put) edge_is.low_edge

  put_to_high : put_to plan world high (high_place plan e) ≡ (traffic_at (state_of world low) (low_place plan e)).put
  put_to_high = ap (λ (x : ℕ). (traffic_at (state_of world x) (place_of plan x (edge_at plan high (high_place plan e)))).put) high_neighbour
      ∙ ap (λ (x : ℕ). (traffic_at (state_of world low) (place_of plan low x)).put) edge_is.high_edge

  low_is_place : low_place plan e < length (state_of world low).traffic
  low_is_place = omega (arith, edge_is.low_within, (kept.keeps low edge_is.low_site).every_place)

  high_is_place : high_place plan e < length (state_of world high).traffic
  high_is_place = omega (arith, edge_is.high_within, (kept.keeps high edge_is.high_site).every_place)

  low_is_lower : cond {A = ℕ} (is_lower_at plan low (low_place plan e)) 1 0 ≡ 1
  low_is_lower = cond-true {A = ℕ} (is_lower_at plan low (low_place plan e)) 1 0 (ap (λ (x : ℕ). lo_of plan x == low) edge_is.low_edge ∙ eq-eqb low low refl)

  high_is_higher : cond {A = ℕ} (is_lower_at plan high (high_place plan e)) 1 0 ≡ 0
  high_is_higher = cond-false {A = ℕ} (is_lower_at plan high (high_place plan e)) 1 0 (ap (λ (x : ℕ). lo_of plan x == high) edge_is.high_edge ∙ ne_eqb low high (λ same. omega (arith, edge_is.ordered)))

  pub balanced : IsBalanced plan e (state_of world low) (state_of world high)
  balanced = record {
    low_counted = omega (arith, ((kept.keeps low edge_is.low_site).places (low_place plan e) low_is_place).forks_counted, low_is_lower);
    high_counted = omega (arith, ((kept.keeps high edge_is.high_site).places (high_place plan e) high_is_place).forks_counted, high_is_higher);
    low_takes = omega (arith, prefix_forks (traffic_at (state_of world low) (low_place plan e)).taken (put_to plan world low (low_place plan e)) (kept.links low (low_place plan e) edge_is.low_site edge_is.low_within), ap forks_in put_to_low);
    high_takes = omega (arith, prefix_forks (traffic_at (state_of world high) (high_place plan e)).taken (put_to plan world high (high_place plan e)) (kept.links high (high_place plan e) edge_is.high_site edge_is.high_within), ap forks_in put_to_high);
  }

  -- a Fork that is on its way to an end was the last that the other put, and went there
  sent_to_low : is_sent_to plan world low (low_place plan e) ≡ true → CameTo low low (last_log_or [] (put_to plan world low (low_place plan e)))
  sent_to_low h =
      let some : 1 ≤ forks_in (traffic_at (state_of world high) (high_place plan e)).put = omega (arith, ltb-true _ _ h, ap forks_in put_to_low) in
      subst (λ (l : List Letter). CameTo low low (last_log_or [] l)) (sym put_to_low)
      (subst (λ (x : ℕ). CameTo low x (last_log_or [] (traffic_at (state_of world high) (high_place plan e)).put)) high_neighbour
      (last_went plan high (state_of world high) (kept.keeps high edge_is.high_site) (high_place plan e) high_is_place low some))

  sent_to_high : is_sent_to plan world high (high_place plan e) ≡ true → CameTo low high (last_log_or [] (put_to plan world high (high_place plan e)))
  sent_to_high h =
      let some : 1 ≤ forks_in (traffic_at (state_of world low) (low_place plan e)).put = omega (arith, ltb-true _ _ h, ap forks_in put_to_high) in
      subst (λ (l : List Letter). CameTo low high (last_log_or [] l)) (sym put_to_high)
      (subst (λ (x : ℕ). CameTo low x (last_log_or [] (traffic_at (state_of world low) (low_place plan e)).put)) low_neighbour
      (last_went plan low (state_of world low) (kept.keeps low edge_is.low_site) (low_place plan e) low_is_place low some))

  -- the fork's log is near one of the two ends
  logs_lie : LogsLie low high (fork_at plan low (state_of world low) (low_place plan e) == 1) (is_sent_to plan world low (low_place plan e))
      (fork_at plan high (state_of world high) (high_place plan e) == 1) (is_sent_to plan world high (high_place plan e))
      (hand_at low (state_of world low) (low_place plan e)) (last_log_or [] (put_to plan world low (low_place plan e)))
      (hand_at high (state_of world high) (high_place plan e)) (last_log_or [] (put_to plan world high (high_place plan e)))
  logs_lie = record {
    in_low_hand = λ h. ap (λ (x : ℕ). location_of (lo_of plan x) (hand_at low (state_of world low) (low_place plan e))) (sym edge_is.low_edge)
        ∙ hand-here plan low (state_of world low) is_plan (kept.keeps low edge_is.low_site) (low_place plan e) low_is_place (eqb-true _ _ h);
    to_low = sent_to_low;
    in_high_hand = λ h. ap (λ (x : ℕ). location_of (lo_of plan x) (hand_at high (state_of world high) (high_place plan e))) (sym edge_is.high_edge)
        ∙ hand-here plan high (state_of world high) is_plan (kept.keeps high edge_is.high_site) (high_place plan e) high_is_place (eqb-true _ _ h);
    to_high = sent_to_high;
    somewhere = λ not_low not_sent not_high. ap (λ (l : List Letter). nat_lt (forks_in (traffic_at (state_of world high) (high_place plan e)).taken) (forks_in l)) put_to_high
        ∙ lt-ltb _ _ (on_the_way (fork_at plan low (state_of world low) (low_place plan e)) (fork_at plan high (state_of world high) (high_place plan e))
        (forks_in (traffic_at (state_of world low) (low_place plan e)).put) (forks_in (traffic_at (state_of world low) (low_place plan e)).taken)
        (forks_in (traffic_at (state_of world high) (high_place plan e)).put) (forks_in (traffic_at (state_of world high) (high_place plan e)).taken)
        balanced.low_counted balanced.high_counted
        (omega (arith, ltb-false _ _ not_sent, ap forks_in put_to_low)) (eqb-false _ _ not_low) (eqb-false _ _ not_high)
        ((kept.keeps low edge_is.low_site).places (low_place plan e) low_is_place).one_fork
        ((kept.keeps high edge_is.high_site).places (high_place plan e) high_is_place).one_fork);
  } where
    on_the_way : (n m F f G g : ℕ) → n + F ≡ 1 + f → m + G ≡ g → G ≤ f → (n ≡ 1 → ⊥) → (m ≡ 1 → ⊥) → n ≤ 1 → m ≤ 1 → g < F
    on_the_way n m F f G g a b c not_low not_high one other = omega arith

  -- the preferred end, by the states of the two ends
  pub preferred_is : preferred_end plan world e ≡ cond (lower_first_at plan e (state_of world low) (state_of world high)) low high
  preferred_is = preferred_lies low high (fork_at plan low (state_of world low) (low_place plan e) == 1) (is_sent_to plan world low (low_place plan e))
      (fork_at plan high (state_of world high) (high_place plan e) == 1) (is_sent_to plan world high (high_place plan e))
      (hand_at low (state_of world low) (low_place plan e)) (last_log_or [] (put_to plan world low (low_place plan e)))
      (hand_at high (state_of world high) (high_place plan e)) (last_log_or [] (put_to plan world high (high_place plan e))) edge_is.ordered logs_lie
      ∙ ap (λ (l : List Letter). cond (lower_first (fork_at plan low (state_of world low) (low_place plan e) == 1) (nat_lt (forks_in (traffic_at (state_of world low) (low_place plan e)).taken) (forks_in l))
      (fork_at plan high (state_of world high) (high_place plan e) == 1) (is_dirty (hand_at low (state_of world low) (low_place plan e))) (is_dirty (hand_at high (state_of world high) (high_place plan e)))) low high) put_to_low
