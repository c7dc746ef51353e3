-- A letter is allowed exactly if it meets no breach.
use Rattle.std.proofs.Common.{◌≡◌, ◌↔◌, ℕ, Bool, true, false, cond, not, ◌&&◌, ◌||◌, ◌==◌, nat_lt, nat_le, Option, Some, None, refl, ◌∙◌}
use Rattle.std.proofs.lemmas.Bool.{false≢true, and_parts, and_from, not-true, not_from_false, cond-false, ltb-true, leb-false, lt-ltb, lt-leb}
use Rattle.dine_graph.specs.Plan.{SeenPlan, job_count, lo_of}
use Rattle.dine_token.specs.Log.{meals_of}
use Rattle.dine_rules.specs.declared.letters.Letter.{Letter}
use Rattle.dine_rules.specs.declared.letters.Letter.TheVariants.{Fork, Request, Done, Close}
use Rattle.dine_rules.specs.declared.breach.Breach.{Breach}
use Rattle.dine_rules.specs.declared.breach.Breach.TheVariants.{AfterClose, RequestOutOfTurn, ForkOutOfTurn, StrangeFork, DoneOutOfTurn, ClosedEarly}
use Rattle.dine_rules.specs.Letters.{has_done, has_close}
use Rattle.dine_rules.specs.Local.{LocalState, traffic_at, edge_at, neighbour_at}
use Rattle.dine_rules.specs.Holdings.{fork_at, token_at, hand_at}
use Rattle.dine_rules.specs.Breach.{was_sent_to, is_fork_of, has_all_of_neighbour, may_come, is_allowed, breach_before_close, first_breach}

-- ---- the tests of each letter, over plain values: the ones that allow it come true exactly where those of its
-- breaches fail

request_none : (edge no_token one_fork done less all : Bool) → (less ≡ true → all ≡ false) → (edge && (no_token && one_fork) && (not done && less)) ≡ true
    → cond (not no_token || not one_fork || done || not edge || all) (Some RequestOutOfTurn) None ≡ None
request_none true true true false true all other h = cond-false all (Some RequestOutOfTurn) None (other refl)
request_none edge no_token one_fork done less all other h = absurd (false≢true h)

request_some : (no_token one_fork done edge less all : Bool) → (all ≡ false → less ≡ true) → cond (not no_token || not one_fork || done || not edge || all) (Some RequestOutOfTurn) None ≡ None
    → (edge && (no_token && one_fork) && (not done && less)) ≡ true
request_some true true false true less false other h = other refl
request_some no_token one_fork done edge less all other h = absurd cc

fork_none : (is_of no_fork no_token here eaten done all : Bool) → (is_of && (no_fork && no_token) && (here && eaten) && (not done || all)) ≡ true
    → cond (not no_fork || not no_token) (Some ForkOutOfTurn) (cond (not is_of || not here || not eaten || (done && not all)) (Some StrangeFork) None) ≡ None
fork_none true true true true true true true h = refl
fork_none true true true true true false all h = refl
fork_none is_of no_fork no_token here eaten done all h = absurd (false≢true h)

fork_some : (no_fork no_token is_of here eaten done all : Bool) → cond (not no_fork || not no_token) (Some ForkOutOfTurn) (cond (not is_of || not here || not eaten || (done && not all)) (Some StrangeFork) None) ≡ None
    → (is_of && (no_fork && no_token) && (here && eaten) && (not done || all)) ≡ true
fork_some true true true true true true true h = refl
fork_some true true true true true false all h = refl
fork_some no_fork no_token is_of here eaten done all h = absurd cc

done_none : (done one_fork all : Bool) → (not done && (not one_fork || all)) ≡ true → cond (done || (one_fork && not all)) (Some DoneOutOfTurn) None ≡ None
done_none false false all h = refl
done_none false true true h = refl
done_none done one_fork all h = absurd (false≢true h)

done_some : (done one_fork all : Bool) → cond (done || (one_fork && not all)) (Some DoneOutOfTurn) None ≡ None → (not done && (not one_fork || all)) ≡ true
done_some false false all h = refl
done_some false true true h = refl
done_some done one_fork all h = absurd cc

close_none : (taken put : Bool) → (taken && put) ≡ true → cond (not taken || not put) (Some ClosedEarly) None ≡ None
close_none true true h = refl
close_none taken put h = absurd (false≢true h)

close_some : (taken put : Bool) → cond (not taken || not put) (Some ClosedEarly) None ≡ None → (taken && put) ≡ true
close_some true true h = refl
close_some taken put h = absurd cc

after_close : (closed : Bool) (rest : Option Breach) → cond closed (Some AfterClose) rest ≡ None → (closed ≡ false) × (rest ≡ None)
after_close true rest h = absurd cc
after_close false rest h = (refl, h)

module _ (plan : SeenPlan) (s : ℕ) (state : LocalState) (i : ℕ) where
  abbrev done_taken : Bool
  done_taken = has_done (traffic_at state i).taken

  abbrev meals_there : ℕ
  meals_there = meals_of (neighbour_at plan s i) (hand_at s state i)

  abbrev due_there : ℕ
  due_there = job_count plan (neighbour_at plan s i)

  none_from : (l : Letter) → may_come plan s state i l ≡ true → breach_before_close plan s state i l ≡ None
  none_from (Request edge) h = request_none (edge == edge_at plan s i) (token_at plan s state i == 0) (fork_at plan s state i == 1) done_taken (nat_lt meals_there due_there) (nat_le due_there meals_there)
      (λ less. lt-leb due_there meals_there (ltb-true meals_there due_there less)) h
  none_from (Fork fork) h = fork_none (is_fork_of plan (edge_at plan s i) fork) (fork_at plan s state i == 0) (token_at plan s state i == 0)
      (was_sent_to (lo_of plan (edge_at plan s i)) s fork.log) (meals_of s fork.log == state.ate) done_taken (has_all_of_neighbour plan s state i fork.log) h
  none_from Done h = done_none done_taken (fork_at plan s state i == 1) (has_all_of_neighbour plan s state i (hand_at s state i)) h
  none_from Close h = close_none done_taken (has_done (traffic_at state i).put) h

  comes_from : (l : Letter) → breach_before_close plan s state i l ≡ None → may_come plan s state i l ≡ true
  comes_from (Request edge) h = request_some (token_at plan s state i == 0) (fork_at plan s state i == 1) done_taken (edge == edge_at plan s i) (nat_lt meals_there due_there) (nat_le due_there meals_there)
      (λ few. lt-ltb meals_there due_there (leb-false due_there meals_there few)) h
  comes_from (Fork fork) h = fork_some (fork_at plan s state i == 0) (token_at plan s state i == 0) (is_fork_of plan (edge_at plan s i) fork)
      (was_sent_to (lo_of plan (edge_at plan s i)) s fork.log) (meals_of s fork.log == state.ate) done_taken (has_all_of_neighbour plan s state i fork.log) h
  comes_from Done h = done_some done_taken (fork_at plan s state i == 1) (has_all_of_neighbour plan s state i (hand_at s state i)) h
  comes_from Close h = close_some done_taken (has_done (traffic_at state i).put) h

  pub no_breach : (l : Letter) → is_allowed plan s state i l ≡ true → first_breach plan s state i l ≡ None
  no_breach l h =
      let closed : Bool = has_close (traffic_at state i).taken in
      let parts = and_parts (not closed) (may_come plan s state i l) h in
      cond-false closed (Some AfterClose) (breach_before_close plan s state i l) (not-true closed parts.0) ∙ none_from l parts.1

  pub allowed : (l : Letter) → first_breach plan s state i l ≡ None → is_allowed plan s state i l ≡ true
  allowed l h =
      let closed : Bool = has_close (traffic_at state i).taken in
      let parts = after_close closed (breach_before_close plan s state i l) h in
      and_from (not closed) (may_come plan s state i l) (not_from_false closed parts.0) (comes_from l parts.1)

  pub breach_law : (l : Letter) → (is_allowed plan s state i l ≡ true) ↔ (first_breach plan s state i l ≡ None)
  breach_law l = (no_breach l, allowed l)
