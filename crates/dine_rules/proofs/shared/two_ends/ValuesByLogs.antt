-- The values that two linked ends put and have in hand are those of the logs. If all jobs add, they are sums.
use Rattle.std.proofs.Common.{◌≡◌, ◌⊎◌, ℕ, zero, suc, ◌+◌, ◌-◌, ◌<◌, ◌==◌, Bool, true, false, List, [], ◌∷◌, ◌++◌, length, get_or, slice_get, Some, refl, sym, ◌∙◌, ap, subst, inl, inr, arith, Option}
use Rattle.std.specs.List.{list_all}
use Rattle.std.proofs.lemmas.Bool.{and_parts, cond-true, cond-false, eq-eqb, false≢true, ne_eqb}
use Rattle.std.proofs.lemmas.Option.{slice_get-get_or}
use Rattle.dine_token.specs.declared.act.Act.{Act}
use Rattle.dine_token.specs.declared.act.Act.TheVariants.{Add, Set}
use Rattle.dine_token.specs.declared.log_entry.Entry.{Entry}
use Rattle.dine_token.specs.declared.log_entry.Entry.TheVariants.{Meal, Move}
use Rattle.dine_token.specs.Fork.{SeenFork, no_fork}
use Rattle.dine_token.specs.Lawful.{IsLawful, count_from}
use Rattle.dine_token.specs.Log.{location_of, meals_of, numbers_of}
use Rattle.dine_token.specs.Values.{amount_of, value_after_act}
use Rattle.dine_token.proofs.shared.Bounds.{IsLawful-front}
use Rattle.dine_token.proofs.shared.Lawfulness.{at_an_end}
use Rattle.dine_token.proofs.shared.Logs.{meals_of-push_move}
use Rattle.dine_graph.specs.Plan.{SeenPlan, SeenSite, SeenJob, IsPlan, act_of, edges_of, job_count, jobs_of, lo_of, hi_of, no_job, no_site, other_of, site_count, value_of}
use Rattle.dine_rules.specs.Holdings.{hand, meals_from}
use Rattle.dine_rules.specs.JoinedEnds.{AccountsForFork, AreForksLinked, AreLinked, IsWholeLog, traffic_across}
use Rattle.dine_rules.specs.Letters.{forks_among, forks_in, last_log_or, last_value_or}
use Rattle.dine_rules.specs.Local.{Traffic, edge_at, neighbour_at, traffic_at}
use Rattle.dine_rules.specs.Streams.{CarriesOnTaken, logs_of}
use Rattle.dine_rules.specs.Values.{CarriesValue, KeepsValuesOfLogs, value_by_amounts, after_meals, amounts_of, hand_value, has_no_set, is_add, value_along, value_by, value_to}
use Rattle.dine_rules.specs.World.{WorldState, place_of, state_of}
use Rattle.dine_rules.proofs.shared.links.Across.{IsAcross, across}
use Rattle.dine_rules.proofs.shared.links.WorldStreams.{WorldKeeps}
use Rattle.dine_rules.proofs.shared.lists.Counting.{last_log_or-none, none_or_some}
use Rattle.dine_rules.proofs.shared.lists.Forks.{among, forks_among-prefix, last_fork, last_value_or-none, length-forks_among, logs_of-at}
use Rattle.dine_rules.proofs.shared.one_place.Hands.{meals_of-with_meals, with_meals}
use Rattle.dine_rules.proofs.shared.one_place.Placed.{placed}
use Rattle.dine_rules.proofs.shared.two_ends.JoinedEnds.{accounts_for_fork}
use Rattle.dine_rules.proofs.shared.two_ends.TwoEnds.{world_linked}

-- ---- a value along a log

value_along-append : (plan : SeenPlan) (xs ys : List Entry) (value : ℕ) → value_along plan (xs ++ ys) value ≡ value_along plan ys (value_along plan xs value)
value_along-append plan [] ys value = refl
value_along-append plan (Meal s k ∷ xs) ys value = value_along-append plan xs ys (value_after_act (act_of plan s k) value)
value_along-append plan (Move to ∷ xs) ys value = value_along-append plan xs ys value

value_along-meals : (plan : SeenPlan) (s first n value : ℕ) → value_along plan (meals_from s first n) value ≡ after_meals plan s first n value
value_along-meals plan s first zero value = refl
value_along-meals plan s first (suc n) value = value_along-meals plan s (first + 1) n (value_after_act (act_of plan s first) value)

module _ (plan : SeenPlan) (edge : ℕ) where
  -- a log with meals of a site more
  by_meals : (s n : ℕ) (log : List Entry) → value_by plan edge (with_meals s n log) ≡ after_meals plan s (meals_of s log + 1) n (value_by plan edge log)
  by_meals s n log = value_along-append plan log (meals_from s (meals_of s log + 1) n) (value_of plan edge) ∙ value_along-meals plan s (meals_of s log + 1) n (value_by plan edge log)

  -- a log with a Move more
  by_move : (log : List Entry) (to : ℕ) → value_by plan edge (log ++ Move to ∷ []) ≡ value_by plan edge log
  by_move log to = value_along-append plan log (Move to ∷ []) (value_of plan edge)

  -- a fork that carries on a log with the value of that log has its own
  by_carried : (s to n : ℕ) (before log : List Entry) (value : ℕ) → log ≡ before ++ meals_from s (meals_of s before + 1) n ++ Move to ∷ [] → value ≡ value_by plan edge before
      → value_to plan s (meals_of s log) before value ≡ value_by plan edge log
  by_carried s to n before log value is value_is =
      let count : meals_of s log ≡ meals_of s before + n = ap (λ (l : List Entry). meals_of s l) is ∙ meals_of-push_move s (with_meals s n before) to ∙ meals_of-with_meals s n before in
      let more : meals_of s log - meals_of s before ≡ n = omega (arith, count) in
      ap (λ (m : ℕ). after_meals plan s (meals_of s before + 1) m value) more
      ∙ ap (after_meals plan s (meals_of s before + 1) n) value_is
      ∙ sym (by_meals s n before) ∙ sym (by_move (with_meals s n before) to) ∙ ap (value_by plan edge) (sym is)

  -- so has the hand of an end that took such a fork last, or none
  by_hand : (s ate : ℕ) (t : Traffic) → ((k : ℕ) (fork : SeenFork) → slice_get (forks_among t.taken) k ≡ Some fork → fork.value ≡ value_by plan edge fork.log) → hand_value plan s edge ate t ≡ value_by plan edge (hand s ate t)
  by_hand s ate t taken =
      ap (after_meals plan s (meals_of s last + 1) (ate - meals_of s last)) last_is ∙ sym (by_meals s (ate - meals_of s last) last)
    where
      last : List Entry
      last = last_log_or [] t.taken

      last_is : last_value_or (value_of plan edge) t.taken ≡ value_by plan edge last
      last_is = elim (none_or_some t.taken) [
        | inl none ↦ last_value_or-none (value_of plan edge) t.taken none ∙ ap (value_by plan edge) (sym (last_log_or-none [] t.taken none))
        | inr some ↦
            let k : ℕ = forks_in t.taken - 1 in
            let fork : SeenFork = get_or (forks_among t.taken) k no_fork in
            let here : slice_get (forks_among t.taken) k ≡ Some fork = slice_get-get_or (forks_among t.taken) k no_fork (omega (arith, some, length-forks_among t.taken)) in
            let w = last_fork [] (value_of plan edge) t.taken k fork here (omega (arith, some)) in
            w.1 ∙ taken k fork here ∙ ap (value_by plan edge) (sym w.0)
      ]

  -- ---- one end

  module _ (s ate : ℕ) (t : Traffic) (accounts : AccountsForFork plan s edge ate t) where
    -- a fork that carries on one that was taken with the value of its log has its own
    on_taken : (to k : ℕ) (fork : SeenFork) → ((before : SeenFork) → slice_get (forks_among t.taken) k ≡ Some before → before.value ≡ value_by plan edge before.log)
        → CarriesOnTaken s to (logs_of t.taken) k fork.log → CarriesValue plan s (forks_among t.taken) k fork → fork.value ≡ value_by plan edge fork.log
    on_taken to k fork taken logs values =
        let same : values.before.log ≡ logs.before = some_same values.before.log logs.before (sym (logs_of-at t.taken k values.before values.is_taken) ∙ logs.is_taken) in
        values.carries ∙ by_carried s to logs.carries.meals values.before.log fork.log values.before.value
        (logs.carries.is ∙ ap (λ (l : List Entry). l ++ meals_from s (meals_of s l + 1) logs.carries.meals ++ Move to ∷ []) (sym same)) (taken values.before values.is_taken)
      where
        some_same : (a b : List Entry) → ◌≡◌ {A = Option (List Entry)} (Some a) (Some b) → a ≡ b
        some_same a b h = cc

    -- the first Fork from the lower end
    first_put : (lo_of plan edge == s) ≡ true → (fork : SeenFork) → slice_get (forks_among t.put) 0 ≡ Some fork → fork.value ≡ value_by plan edge fork.log
    first_put low fork h =
        let logs = accounts.chained.first low fork.log (logs_of-at t.put 0 fork h) in
        accounts.values.first low fork h ∙ by_carried s (other_of plan edge s) logs.meals [] fork.log (value_of plan edge) logs.is refl

    next_put : (lo_of plan edge == s) ≡ true → (k : ℕ) → ((before : SeenFork) → slice_get (forks_among t.taken) k ≡ Some before → before.value ≡ value_by plan edge before.log)
        → (fork : SeenFork) → slice_get (forks_among t.put) (k + 1) ≡ Some fork → fork.value ≡ value_by plan edge fork.log
    next_put low k taken fork h = on_taken (other_of plan edge s) k fork taken (accounts.chained.next low k fork.log (logs_of-at t.put (k + 1) fork h)) (accounts.values.next low k fork h)

    answer_put : (lo_of plan edge == s) ≡ false → (k : ℕ) → ((before : SeenFork) → slice_get (forks_among t.taken) k ≡ Some before → before.value ≡ value_by plan edge before.log)
        → (fork : SeenFork) → slice_get (forks_among t.put) k ≡ Some fork → fork.value ≡ value_by plan edge fork.log
    answer_put high k taken fork h = on_taken (other_of plan edge s) k fork taken (accounts.chained.answers high k fork.log (logs_of-at t.put k fork h)) (accounts.values.answers high k fork h)

-- ---- two ends

-- where each end took a front of what the other put, so it is of the Forks
pub forks_linked : (low high : Traffic) → AreLinked low high → AreForksLinked low high
forks_linked low high linked = record { comes = forks_among-prefix low.taken high.put linked.comes; goes = forks_among-prefix high.taken low.put linked.goes }

module _ (plan : SeenPlan) (edge low_ate high_ate : ℕ) (low high : Traffic) (ordered : lo_of plan edge < hi_of plan edge)
    (accounts_low : AccountsForFork plan (lo_of plan edge) edge low_ate low) (accounts_high : AccountsForFork plan (hi_of plan edge) edge high_ate high) (linked : AreForksLinked low high) where
  -- the k-th Fork put has the value of its log
  abbrev HasAt : Traffic → ℕ → Type 0
  HasAt t k = (fork : SeenFork) → slice_get (forks_among t.put) k ≡ Some fork → fork.value ≡ value_by plan edge fork.log

  lower : (lo_of plan edge == lo_of plan edge) ≡ true
  lower = eq-eqb (lo_of plan edge) (lo_of plan edge) refl

  higher : (lo_of plan edge == hi_of plan edge) ≡ false
  higher = ne_eqb (lo_of plan edge) (hi_of plan edge) (λ same. omega (arith, same, ordered))

  answered : (k : ℕ) → HasAt low k → HasAt high k
  answered k came = answer_put plan edge (hi_of plan edge) high_ate high accounts_high higher k (λ before h. came before (linked.goes k before h))

  both : (k : ℕ) → HasAt low k × HasAt high k
  both zero =
      let first : HasAt low 0 = first_put plan edge (lo_of plan edge) low_ate low accounts_low lower in
      (first, answered 0 first)
  both (suc k) =
      let came = (both k).1 in
      let next : HasAt low (suc k) = λ fork h. next_put plan edge (lo_of plan edge) low_ate low accounts_low lower k
      (λ before b. came before (linked.comes k before b)) fork (ap (slice_get (forks_among low.put)) (let e : k + 1 ≡ suc k = omega arith in e) ∙ h) in
      (next, answered (suc k) next)

  pub low_tells : KeepsValuesOfLogs plan (lo_of plan edge) edge low_ate low
  low_tells = record {
    put = λ k fork h. (let at = among low.put k fork h in (both at.0).0 fork at.1);
    in_hand = by_hand plan edge (lo_of plan edge) low_ate low (λ k fork h. (both k).1 fork (linked.comes k fork h));
  }

  pub high_tells : KeepsValuesOfLogs plan (hi_of plan edge) edge high_ate high
  high_tells = record {
    put = λ k fork h. (let at = among high.put k fork h in (both at.0).1 fork at.1);
    in_hand = by_hand plan edge (hi_of plan edge) high_ate high (λ k fork h. (both k).0 fork (linked.goes k fork h));
  }

-- ---- where all jobs add

-- each of a list passes, and what stands past its end
all_at : {X : Type 0} (p : X → Bool) (xs : List X) (i : ℕ) (past : X) → list_all p xs ≡ true → p past ≡ true → p (get_or xs i past) ≡ true
all_at p [] i past all h = h
all_at p (x ∷ xs) zero past all h = (and_parts _ _ all).0
all_at p (x ∷ xs) (suc i) past all h = all_at p xs i past (and_parts _ _ all).1 h

acts_add : (plan : SeenPlan) → has_no_set plan ≡ true → (s k : ℕ) → is_add (act_of plan s k) ≡ true
acts_add plan all s k =
    let adds : SeenJob → Bool = λ (job : SeenJob). is_add job.act in
    all_at adds (jobs_of plan s) (k - 1) no_job (all_at (λ (site : SeenSite). list_all adds site.jobs) plan.sites s no_site all refl) refl

value_after_act-add : (act : Act) (value : ℕ) → is_add act ≡ true → value_after_act act value ≡ value + amount_of act
value_after_act-add (Add amount) value h = refl
value_after_act-add (Set amount) value h = absurd (false≢true h)

module _ (plan : SeenPlan) (all : has_no_set plan ≡ true) (lo hi : ℕ) (ordered : lo < hi) where
  adds_along : (log : List Entry) (value : ℕ) → ((before after : List Entry) (site k : ℕ) → log ≡ before ++ Meal site k ∷ after → (site ≡ lo) ⊎ (site ≡ hi))
      → value_along plan log value ≡ value + amounts_of plan lo (numbers_of lo log) + amounts_of plan hi (numbers_of hi log)
  adds_along [] value eaten = omega arith
  adds_along (Move to ∷ log) value eaten = adds_along log value (λ before after site k is. eaten (Move to ∷ before) after site k (ap (λ (l : List Entry). Move to ∷ l) is))
  adds_along (Meal s k ∷ log) value eaten =
      let rest = adds_along log (value_after_act (act_of plan s k) value) (λ before after site n is. eaten (Meal s k ∷ before) after site n (ap (λ (l : List Entry). Meal s k ∷ l) is)) in
      let more = value_after_act-add (act_of plan s k) value (acts_add plan all s k) in
      elim (eaten [] log s k refl) [
        | inl low ↦
            let act : amount_of (act_of plan s k) ≡ amount_of (act_of plan lo k) = ap (λ (x : ℕ). amount_of (act_of plan x k)) low in
            let own = ap (amounts_of plan lo) (cond-true (s == lo) (k ∷ numbers_of lo log) (numbers_of lo log) (eq-eqb s lo low)) in
            let other = ap (amounts_of plan hi) (cond-false (s == hi) (k ∷ numbers_of hi log) (numbers_of hi log) (ne_eqb s hi (λ same. omega (arith, same, low, ordered)))) in
            omega (arith, rest, more, act, own, other)
        | inr high ↦
            let act : amount_of (act_of plan s k) ≡ amount_of (act_of plan hi k) = ap (λ (x : ℕ). amount_of (act_of plan x k)) high in
            let own = ap (amounts_of plan hi) (cond-true (s == hi) (k ∷ numbers_of hi log) (numbers_of hi log) (eq-eqb s hi high)) in
            let other = ap (amounts_of plan lo) (cond-false (s == lo) (k ∷ numbers_of lo log) (numbers_of lo log) (ne_eqb s lo (λ same. omega (arith, same, high, ordered)))) in
            omega (arith, rest, more, act, own, other)
      ]

pub whole_adds_up : (plan : SeenPlan) (edge low_ate high_ate : ℕ) (log : List Entry) → lo_of plan edge < hi_of plan edge → has_no_set plan ≡ true → IsWholeLog plan edge low_ate high_ate log
    → value_by plan edge log ≡ value_by_amounts plan edge low_ate high_ate
whole_adds_up plan edge low_ate high_ate log ordered all whole =
    let lo : ℕ = lo_of plan edge in
    let hi : ℕ = hi_of plan edge in
    let by_ends = adds_along plan all lo hi ordered log (value_of plan edge) (λ before after site k is.
    let here : site ≡ location_of lo before = whole.lawful.eaten_where_held before after site k is in
    let front : IsLawful (lo, hi) (job_count plan lo, job_count plan hi) before = IsLawful-front (lo, hi) (job_count plan lo, job_count plan hi) before (Meal site k ∷ after) (subst (IsLawful (lo, hi) (job_count plan lo, job_count plan hi)) is whole.lawful) in
    elim (at_an_end (lo, hi) (job_count plan lo, job_count plan hi) before front) [
      | inl w ↦ inl (here ∙ w.0)
      | inr w ↦ inr (here ∙ w.0)
    ]) in
    by_ends ∙ ap (λ (n : ℕ). value_of plan edge + n + amounts_of plan hi (numbers_of hi log)) (ap (amounts_of plan lo) whole.lower_each_once)
    ∙ ap (λ (n : ℕ). value_of plan edge + amounts_of plan lo (count_from 1 low_ate) + n) (ap (amounts_of plan hi) whole.higher_each_once)

-- ---- worlds

module _ (plan : SeenPlan) (is_plan : IsPlan plan) (world : WorldState) (kept : WorldKeeps plan world) (s i : ℕ) (is_site : s < site_count plan) (within : i < length (edges_of plan s)) where
  -- the place, and the other end of its edge
  abbrev pub edge : ℕ
  edge = edge_at plan s i

  abbrev pub near : Traffic
  near = traffic_at (state_of world s) i

  abbrev far : Traffic
  far = traffic_across plan world s i

  -- how many meals the other end ate
  abbrev far_ate : ℕ
  far_ate = (state_of world (neighbour_at plan s i)).ate

  over : IsAcross plan s i (neighbour_at plan s i) (place_of plan (neighbour_at plan s i) (edge_at plan s i))
  over = across plan s i is_plan within

  accounts_near : AccountsForFork plan s edge (state_of world s).ate near
  accounts_near = accounts_for_fork plan s (state_of world s) i (kept.keeps s is_site) within

  accounts_far : AccountsForFork plan (neighbour_at plan s i) edge far_ate far
  accounts_far = subst (λ (e : ℕ). AccountsForFork plan (neighbour_at plan s i) e far_ate far) over.same_edge
      (accounts_for_fork plan (neighbour_at plan s i) (state_of world (neighbour_at plan s i)) (place_of plan (neighbour_at plan s i) edge) (kept.keeps (neighbour_at plan s i) over.is_site) over.within)

  linked : AreForksLinked near far
  linked = forks_linked near far (world_linked plan is_plan world kept s i is_site within)

  -- each Fork put, and the fork in hand, have the value of their log
  pub world_tells : KeepsValuesOfLogs plan s edge (state_of world s).ate near
  world_tells =
      let at = placed plan s i is_plan within in
      elim at.sides [
        | inl w ↦
            subst (λ (x : ℕ). KeepsValuesOfLogs plan x edge (state_of world s).ate near) w.0
            (low_tells plan edge (state_of world s).ate far_ate near far at.ordered
            (subst (λ (x : ℕ). AccountsForFork plan x edge (state_of world s).ate near) (sym w.0) accounts_near)
            (subst (λ (x : ℕ). AccountsForFork plan x edge far_ate far) w.1 accounts_far) linked)
        | inr w ↦
            subst (λ (x : ℕ). KeepsValuesOfLogs plan x edge (state_of world s).ate near) w.0
            (high_tells plan edge far_ate (state_of world s).ate far near at.ordered
            (subst (λ (x : ℕ). AccountsForFork plan x edge far_ate far) w.1 accounts_far)
            (subst (λ (x : ℕ). AccountsForFork plan x edge (state_of world s).ate near) (sym w.0) accounts_near)
            (record { comes = linked.goes; goes = linked.comes }))
      ]
