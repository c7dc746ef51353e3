-- The log of the fork of each edge, at a site or in a link: lawful, and in a complete world with all meals of both
-- ends.
use Rattle.std.proofs.Common.{◌≡◌, ◌⊎◌, ℕ, zero, suc, ◌+◌, ◌<◌, ◌≤◌, ◌==◌, ◌||◌, Bool, true, false, List, [], ◌∷◌, length, slice_get, Some, unwrap_or, refl, sym, ◌∙◌, ap, subst, inl, inr, arith}
use Rattle.std.specs.Option.{option_or}
use Rattle.std.proofs.lemmas.Bool.{eqb-true, eqb-false, ltb-true, ltb-false, lt-ltb, false≢true}
use Rattle.dine_token.specs.declared.log_entry.Entry.{Entry}
use Rattle.dine_token.specs.Fork.{SeenFork}
use Rattle.dine_token.specs.Lawful.{IsLawful}
use Rattle.dine_token.specs.Log.{meals_of}
use Rattle.dine_graph.specs.Plan.{SeenPlan, IsPlan, site_count, job_count, edge_count, edges_of, lo_of, hi_of, other_of}
use Rattle.dine_rules.specs.declared.letters.Letter.{Letter}
use Rattle.dine_rules.specs.declared.letters.Letter.TheVariants.{Fork, Request, Done, Close}
use Rattle.dine_rules.specs.Letters.{forks_in, last_log_or}
use Rattle.dine_rules.specs.Local.{traffic_at, edge_at, neighbour_at}
use Rattle.dine_rules.specs.Holdings.{fork_at, hand_at}
use Rattle.dine_rules.specs.Links.{queue_to}
use Rattle.dine_rules.specs.Precedence.{is_sent_to, fork_log}
use Rattle.dine_rules.specs.Steps.{fork_with}
use Rattle.dine_rules.specs.Streams.{KeepsStreamsAt, ends_at_place, due_at_place}
use Rattle.dine_rules.specs.World.{HasAllMeals, WorldState, IsComplete, state_of, place_of, put_to}
use Rattle.dine_rules.proofs.shared.links.Across.{IsAcross, across, place_of-edge_at}
use Rattle.dine_rules.proofs.shared.one_place.Owned.{own_is}
use Rattle.dine_rules.proofs.shared.lists.Counting.{or_false, last_log_or-append, last_log_or-none, last_log_or-some}
use Rattle.dine_rules.proofs.shared.links.EdgeSums.{fork_of_place, one_fork_of_edge}
use Rattle.dine_rules.proofs.shared.links.Near.{near_log, put_count}
use Rattle.dine_rules.proofs.shared.one_site.InHand.{hand-meals}
use Rattle.dine_rules.proofs.shared.links.Links.{link_forks, link_holds}
use Rattle.dine_rules.proofs.shared.one_place.Placed.{placed}
use Rattle.dine_rules.proofs.shared.precedence.Preference.{IsEdge, is_edge, low_place, high_place}
use Rattle.dine_rules.proofs.shared.one_place.Sent.{meals_of-with_meals_other}
use Rattle.dine_rules.proofs.shared.links.WorldStreams.{WorldKeeps, neighbour_differs}

-- the log has all meals of two sites
abbrev pub HasAllOfBoth : SeenPlan → WorldState → ℕ → ℕ → List Entry → Type 0
HasAllOfBoth plan world one other log = HasAllMeals plan world one log × HasAllMeals plan world other log

-- ---- at a place

module _ (plan : SeenPlan) (is_plan : IsPlan plan) (world : WorldState) (kept : WorldKeeps plan world) (s i : ℕ) (is_site : s < site_count plan) (within : i < length (edges_of plan s)) where
  abbrev other : ℕ
  other = neighbour_at plan s i

  abbrev other_place : ℕ
  other_place = place_of plan other (edge_at plan s i)

  -- the same edge is at a place of the other end
  over : IsAcross plan s i other other_place
  over = across plan s i is_plan within

  -- what the site keeps there, and what the other end keeps
  here : KeepsStreamsAt plan s (state_of world s) i
  here = let keeps = kept.keeps s is_site in keeps.places i (omega (arith, within, keeps.every_place))

  there : KeepsStreamsAt plan other (state_of world other) other_place
  there = let keeps = kept.keeps other over.is_site in keeps.places other_place (omega (arith, over.within, keeps.every_place))

  -- the log in hand is lawful
  held_lawful : fork_at plan s (state_of world s) i ≡ 1 → IsLawful (ends_at_place plan s i) (due_at_place plan s i) (hand_at s (state_of world s) i)
  held_lawful = here.hand_lawful

  -- so is the log in the link to the site
  sent_lawful : is_sent_to plan world s i ≡ true → IsLawful (ends_at_place plan s i) (due_at_place plan s i) (last_log_or [] (put_to plan world s i))
  sent_lawful sent =
      let some : 1 ≤ forks_in (put_to plan world s i) = omega (arith, ltb-true _ _ sent) in
      let w = last_log_or-some [] (put_to plan world s i) some in
      let put = there.put_forks w.0 w.1 w.2 in
      let own : w.1 ≡ fork_with plan (edge_at plan s i) w.1.log w.1.value = own_is plan (edge_at plan other other_place) w.1 put.0 ∙ ap (λ (x : ℕ). fork_with plan x w.1.log w.1.value) over.same_edge in
      subst (λ (log : List Entry). IsLawful (ends_at_place plan s i) (due_at_place plan s i) log) (sym w.3) (subst (λ (f : SeenFork). IsLawful f.ends f.due f.log) own put.1)

  module _ (complete : IsComplete plan world) where
    -- in a complete world no fork is in a link
    none_sent : is_sent_to plan world s i ≡ true → ⊥
    none_sent sent = omega (arith, ltb-true _ _ sent, ap forks_in (complete.all_taken s i is_site within))

    -- what a site ate is due to it, unless it has quit
    ate_due : (t : ℕ) → t < site_count plan → (state_of world t).has_quit ≡ false → (state_of world t).ate ≡ job_count plan t
    ate_due t is_t stays = eqb-true _ _ (sym (or_false ((state_of world t).ate == job_count plan t)) ∙ ap (λ (b : Bool). (state_of world t).ate == job_count plan t || b) (sym stays) ∙ complete.all_ate t is_t)

    -- a log with all meals that a site ate has those that are due to it
    with_due : (t : ℕ) (log : List Entry) → t < site_count plan → meals_of t log ≡ (state_of world t).ate → HasAllMeals plan world t log
    with_due t log is_t all = record { ate = all; due = λ stays. all ∙ ate_due t is_t stays }

    -- a site that holds the fork put all its own meals into it
    own_meals : meals_of s (hand_at s (state_of world s) i) ≡ (state_of world s).ate
    own_meals = let keeps = kept.keeps s is_site in
        hand-meals plan s (state_of world s) is_plan keeps i (omega (arith, within, keeps.every_place))

    -- and took it with all meals of the other end
    other_meals : fork_at plan s (state_of world s) i ≡ 1 → meals_of other (hand_at s (state_of world s) i) ≡ (state_of world other).ate
    other_meals held =
        let none : fork_at plan other (state_of world other) other_place ≡ 0 = omega (arith, held, fork_of_place plan is_plan world kept s i is_site within) in
        meals_of-with_meals_other other s _ (last_log_or [] (traffic_at (state_of world s) i).taken) (λ same. neighbour_differs plan s i (placed plan s i is_plan within) (sym same))
        ∙ ap (λ (l : List Letter). meals_of other (last_log_or [] l)) (complete.all_taken s i is_site within)
        ∙ there.put_chained.last none

    -- so the log in hand has all meals of both
    held_whole : fork_at plan s (state_of world s) i ≡ 1 → HasAllOfBoth plan world s other (hand_at s (state_of world s) i)
    held_whole held = (with_due s (hand_at s (state_of world s) i) is_site own_meals, with_due other (hand_at s (state_of world s) i) over.is_site (other_meals held))

-- ---- at an edge

-- what holds of the log wherever it lies holds of the log that is found
found_log : (P : List Entry → Type 0) (held_low sent_low held_high sent_high : Bool) (a b c d : List Entry)
    → (held_low ≡ true → P a) → (sent_low ≡ true → P b) → (held_high ≡ true → P c) → (sent_high ≡ true → P d) → (held_low ≡ false → sent_low ≡ false → held_high ≡ false → sent_high ≡ true)
    → P (unwrap_or (option_or (near_log held_low sent_low a b) (near_log held_high sent_high c d)) [])
found_log P true sent_low held_high sent_high a b c d in_low to_low in_high to_high somewhere = in_low refl
found_log P false true held_high sent_high a b c d in_low to_low in_high to_high somewhere = to_low refl
found_log P false false true sent_high a b c d in_low to_low in_high to_high somewhere = in_high refl
found_log P false false false true a b c d in_low to_low in_high to_high somewhere = to_high refl
found_log P false false false false a b c d in_low to_low in_high to_high somewhere = absurd (false≢true (somewhere refl refl refl))

-- one fork that is neither held nor in the one link is in the other
pub in_other_link : (a b c d t p u q : ℕ) → a + b + (c + d) ≡ 1 → (a ≡ 1 → ⊥) → (c ≡ 1 → ⊥) → p ≤ t → p ≡ t + b → q ≡ u + d → u < q
in_other_link a b c d t p u q one not_low not_high few count other = omega arith

module _ (plan : SeenPlan) (is_plan : IsPlan plan) (world : WorldState) (kept : WorldKeeps plan world) (e : ℕ) (within : e < edge_count plan) where
  abbrev low : ℕ
  low = lo_of plan e

  abbrev high : ℕ
  high = hi_of plan e

  abbrev low_at : ℕ
  low_at = low_place plan e

  abbrev high_at : ℕ
  high_at = high_place plan e

  -- what the plan says of the edge
  edge_is : IsEdge plan e
  edge_is = is_edge plan e is_plan within

  -- from each end the other is seen
  low_neighbour : neighbour_at plan low low_at ≡ high
  low_neighbour = ap (λ (x : ℕ). other_of plan x low) edge_is.low_edge ∙ edge_is.from_low

  high_neighbour : neighbour_at plan high high_at ≡ low
  high_neighbour = ap (λ (x : ℕ). other_of plan x high) edge_is.high_edge ∙ edge_is.from_high

  -- where the fork is nowhere else, it is on its way to the higher end
  somewhere : (fork_at plan low (state_of world low) low_at == 1) ≡ false → is_sent_to plan world low low_at ≡ false → (fork_at plan high (state_of world high) high_at == 1) ≡ false → is_sent_to plan world high high_at ≡ true
  somewhere not_low not_sent not_high =
      lt-ltb (forks_in (traffic_at (state_of world high) high_at).taken) (forks_in (put_to plan world high high_at))
      (in_other_link (fork_at plan low (state_of world low) low_at) (forks_in (queue_to plan world low low_at)) (fork_at plan high (state_of world high) high_at) (forks_in (queue_to plan world high high_at))
      (forks_in (traffic_at (state_of world low) low_at).taken) (forks_in (put_to plan world low low_at)) (forks_in (traffic_at (state_of world high) high_at).taken) (forks_in (put_to plan world high high_at))
      (one_fork_of_edge plan is_plan world kept e within) (eqb-false _ _ not_low) (eqb-false _ _ not_high) (ltb-false _ _ not_sent)
      (put_count plan is_plan world kept low low_at edge_is.low_site edge_is.low_within) (put_count plan is_plan world kept high high_at edge_is.high_site edge_is.high_within))

  -- what holds in both hands and in both links holds of the log of the fork
  holds_of_log : (P : List Entry → Type 0)
      → (fork_at plan low (state_of world low) low_at ≡ 1 → P (hand_at low (state_of world low) low_at)) → (is_sent_to plan world low low_at ≡ true → P (last_log_or [] (put_to plan world low low_at)))
      → (fork_at plan high (state_of world high) high_at ≡ 1 → P (hand_at high (state_of world high) high_at)) → (is_sent_to plan world high high_at ≡ true → P (last_log_or [] (put_to plan world high high_at)))
      → P (fork_log plan world e)
  holds_of_log P in_low to_low in_high to_high =
      found_log P (fork_at plan low (state_of world low) low_at == 1) (is_sent_to plan world low low_at) (fork_at plan high (state_of world high) high_at == 1) (is_sent_to plan world high high_at)
      (hand_at low (state_of world low) low_at) (last_log_or [] (put_to plan world low low_at)) (hand_at high (state_of world high) high_at) (last_log_or [] (put_to plan world high high_at))
      (λ h. in_low (eqb-true _ _ h)) to_low (λ h. in_high (eqb-true _ _ h)) to_high somewhere

  -- a log that is lawful by the edge x is lawful by the same edge
  lawful_by : (log : List Entry) (x : ℕ) → x ≡ e → IsLawful (lo_of plan x, hi_of plan x) (job_count plan (lo_of plan x), job_count plan (hi_of plan x)) log → IsLawful (low, high) (job_count plan low, job_count plan high) log
  lawful_by log x same lawful = subst (λ (y : ℕ). IsLawful (lo_of plan y, hi_of plan y) (job_count plan (lo_of plan y), job_count plan (hi_of plan y)) log) same lawful

  -- the log of the fork is lawful
  pub log_lawful : IsLawful (low, high) (job_count plan low, job_count plan high) (fork_log plan world e)
  log_lawful = holds_of_log (λ log. IsLawful (low, high) (job_count plan low, job_count plan high) log)
      (λ h. lawful_by _ (edge_at plan low low_at) edge_is.low_edge (held_lawful plan is_plan world kept low low_at edge_is.low_site edge_is.low_within h))
      (λ h. lawful_by _ (edge_at plan low low_at) edge_is.low_edge (sent_lawful plan is_plan world kept low low_at edge_is.low_site edge_is.low_within h))
      (λ h. lawful_by _ (edge_at plan high high_at) edge_is.high_edge (held_lawful plan is_plan world kept high high_at edge_is.high_site edge_is.high_within h))
      (λ h. lawful_by _ (edge_at plan high high_at) edge_is.high_edge (sent_lawful plan is_plan world kept high high_at edge_is.high_site edge_is.high_within h))

  -- in a complete world it has all meals of both ends
  pub log_whole : IsComplete plan world → HasAllOfBoth plan world low high (fork_log plan world e)
  log_whole complete = holds_of_log (HasAllOfBoth plan world low high)
      (λ h. subst (λ (o : ℕ). HasAllOfBoth plan world low o (hand_at low (state_of world low) low_at)) low_neighbour (held_whole plan is_plan world kept low low_at edge_is.low_site edge_is.low_within complete h))
      (λ h. absurd (none_sent plan is_plan world kept low low_at edge_is.low_site edge_is.low_within complete h))
      (λ h. let w = subst (λ (o : ℕ). HasAllOfBoth plan world high o (hand_at high (state_of world high) high_at)) high_neighbour (held_whole plan is_plan world kept high high_at edge_is.high_site edge_is.high_within complete h) in (w.1, w.0))
      (λ h. absurd (none_sent plan is_plan world kept high high_at edge_is.high_site edge_is.high_within complete h))

  -- ---- the one fork

  -- the counts of the fork at both ends and in both links
  abbrev held_low : ℕ
  held_low = fork_at plan low (state_of world low) low_at

  abbrev sent_low : ℕ
  sent_low = forks_in (queue_to plan world low low_at)

  abbrev held_high : ℕ
  held_high = fork_at plan high (state_of world high) high_at

  abbrev sent_high : ℕ
  sent_high = forks_in (queue_to plan world high high_at)

  -- they come to one
  one_fork : held_low + sent_low + (held_high + sent_high) ≡ 1
  one_fork = one_fork_of_edge plan is_plan world kept e within

  -- a fork that was sent to an end is in the link
  low_sent : is_sent_to plan world low low_at ≡ true → 1 ≤ sent_low
  low_sent sent = omega (arith, ltb-true _ _ sent, put_count plan is_plan world kept low low_at edge_is.low_site edge_is.low_within)

  high_sent : is_sent_to plan world high high_at ≡ true → 1 ≤ sent_high
  high_sent sent = omega (arith, ltb-true _ _ sent, put_count plan is_plan world kept high high_at edge_is.high_site edge_is.high_within)

  -- so the log that is told is that of where it is: in the lower hand
  in_low_hand : held_low ≡ 1 → fork_log plan world e ≡ hand_at low (state_of world low) low_at
  in_low_hand here = holds_of_log (λ log. log ≡ hand_at low (state_of world low) low_at)
      (λ _. refl) (λ sent. absurd (omega (arith, one_fork, low_sent sent))) (λ held. absurd (omega (arith, one_fork))) (λ sent. absurd (omega (arith, one_fork, high_sent sent)))

  -- on the way to the lower end
  to_low_end : 1 ≤ sent_low → fork_log plan world e ≡ last_log_or [] (put_to plan world low low_at)
  to_low_end here = holds_of_log (λ log. log ≡ last_log_or [] (put_to plan world low low_at))
      (λ held. absurd (omega (arith, one_fork))) (λ _. refl) (λ held. absurd (omega (arith, one_fork))) (λ sent. absurd (omega (arith, one_fork, high_sent sent)))

  -- in the higher hand
  in_high_hand : held_high ≡ 1 → fork_log plan world e ≡ hand_at high (state_of world high) high_at
  in_high_hand here = holds_of_log (λ log. log ≡ hand_at high (state_of world high) high_at)
      (λ held. absurd (omega (arith, one_fork))) (λ sent. absurd (omega (arith, one_fork, low_sent sent))) (λ _. refl) (λ sent. absurd (omega (arith, one_fork, high_sent sent)))

  -- on the way to the higher end
  to_high_end : 1 ≤ sent_high → fork_log plan world e ≡ last_log_or [] (put_to plan world high high_at)
  to_high_end here = holds_of_log (λ log. log ≡ last_log_or [] (put_to plan world high high_at))
      (λ held. absurd (omega (arith, one_fork))) (λ sent. absurd (omega (arith, one_fork, low_sent sent))) (λ held. absurd (omega (arith, one_fork))) (λ _. refl)

  -- the same at either end
  in_hand_of : (t : ℕ) → (lo_of plan e ≡ t) ⊎ (hi_of plan e ≡ t) → fork_at plan t (state_of world t) (place_of plan t e) ≡ 1 → fork_log plan world e ≡ hand_at t (state_of world t) (place_of plan t e)
  in_hand_of t (inl same) = subst (λ (x : ℕ). fork_at plan x (state_of world x) (place_of plan x e) ≡ 1 → fork_log plan world e ≡ hand_at x (state_of world x) (place_of plan x e)) same in_low_hand
  in_hand_of t (inr same) = subst (λ (x : ℕ). fork_at plan x (state_of world x) (place_of plan x e) ≡ 1 → fork_log plan world e ≡ hand_at x (state_of world x) (place_of plan x e)) same in_high_hand

  to_end_of : (t : ℕ) → (lo_of plan e ≡ t) ⊎ (hi_of plan e ≡ t) → 1 ≤ forks_in (queue_to plan world t (place_of plan t e)) → fork_log plan world e ≡ last_log_or [] (put_to plan world t (place_of plan t e))
  to_end_of t (inl same) = subst (λ (x : ℕ). 1 ≤ forks_in (queue_to plan world x (place_of plan x e)) → fork_log plan world e ≡ last_log_or [] (put_to plan world x (place_of plan x e))) same to_low_end
  to_end_of t (inr same) = subst (λ (x : ℕ). 1 ≤ forks_in (queue_to plan world x (place_of plan x e)) → fork_log plan world e ≡ last_log_or [] (put_to plan world x (place_of plan x e))) same to_high_end

-- ---- the one fork at a place

-- a list with a Fork has one
has_fork : (xs : List Letter) (k : ℕ) (fork : SeenFork) → slice_get xs k ≡ Some (Fork fork) → 1 ≤ forks_in xs
has_fork [] k fork h = absurd cc
has_fork (Fork other ∷ xs) k fork h = omega arith
has_fork (Request edge ∷ xs) zero fork h = absurd cc
has_fork (Request edge ∷ xs) (suc k) fork h = has_fork xs k fork h
has_fork (Done ∷ xs) zero fork h = absurd cc
has_fork (Done ∷ xs) (suc k) fork h = has_fork xs k fork h
has_fork (Close ∷ xs) zero fork h = absurd cc
has_fork (Close ∷ xs) (suc k) fork h = has_fork xs k fork h

-- where there is one Fork, the last log is its log
only_log : (log : List Entry) (xs : List Letter) (k : ℕ) (fork : SeenFork) → slice_get xs k ≡ Some (Fork fork) → forks_in xs ≤ 1 → last_log_or log xs ≡ fork.log
only_log log [] k fork h one = absurd cc
only_log log (Fork other ∷ xs) zero fork h one = last_log_or-none other.log xs (omega arith) ∙ (let same : other ≡ fork = cc in ap (λ (f : SeenFork). f.log) same)
only_log log (Fork other ∷ xs) (suc k) fork h one = absurd (omega (arith, has_fork xs k fork h))
only_log log (Request edge ∷ xs) zero fork h one = absurd cc
only_log log (Request edge ∷ xs) (suc k) fork h one = only_log log xs k fork h one
only_log log (Done ∷ xs) zero fork h one = absurd cc
only_log log (Done ∷ xs) (suc k) fork h one = only_log log xs k fork h one
only_log log (Close ∷ xs) zero fork h one = absurd cc
only_log log (Close ∷ xs) (suc k) fork h one = only_log log xs k fork h one

module _ (plan : SeenPlan) (is_plan : IsPlan plan) (world : WorldState) (kept : WorldKeeps plan world) (s i : ℕ) (is_site : s < site_count plan) (within : i < length (edges_of plan s)) where
  -- the edge of the place, and the place of the edge
  abbrev edge : ℕ
  edge = edge_at plan s i

  place_is : place_of plan s edge ≡ i
  place_is = place_of-edge_at plan s i within

  edge_within : edge < edge_count plan
  edge_within = (placed plan s i is_plan within).edge_within

  -- the site is one of its ends
  is_one : (lo_of plan edge ≡ s) ⊎ (hi_of plan edge ≡ s)
  is_one = elim (placed plan s i is_plan within).sides [ inl w ↦ inl w.0 | inr w ↦ inr w.0 ]

  -- a fork in hand has the log that is told
  pub log_in_hand : fork_at plan s (state_of world s) i ≡ 1 → fork_log plan world edge ≡ hand_at s (state_of world s) i
  log_in_hand = subst (λ (k : ℕ). fork_at plan s (state_of world s) k ≡ 1 → fork_log plan world edge ≡ hand_at s (state_of world s) k) place_is (in_hand_of plan is_plan world kept edge edge_within s is_one)

  -- and so has a fork in the link
  pub log_in_link : (fork : SeenFork) (k : ℕ) → slice_get (queue_to plan world s i) k ≡ Some (Fork fork) → fork_log plan world edge ≡ fork.log
  log_in_link fork k here =
      let told : fork_log plan world edge ≡ last_log_or [] (put_to plan world s i) =
      subst (λ (j : ℕ). 1 ≤ forks_in (queue_to plan world s j) → fork_log plan world edge ≡ last_log_or [] (put_to plan world s j)) place_is (to_end_of plan is_plan world kept edge edge_within s is_one)
      (has_fork (queue_to plan world s i) k fork here) in
      let taken : List Letter = (traffic_at (state_of world s) i).taken in
      told ∙ ap (last_log_or []) (link_holds plan is_plan world kept s i is_site within) ∙ last_log_or-append [] taken (queue_to plan world s i)
      ∙ only_log (last_log_or [] taken) (queue_to plan world s i) k fork here (link_forks plan is_plan world kept s i is_site within)
