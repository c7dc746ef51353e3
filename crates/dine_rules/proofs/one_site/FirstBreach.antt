-- The breach that is reported is the first of those that apply.
use Rattle.std.proofs.Common.{◌≡◌, ◌≢◌, ◌⊎◌, ℕ, ◌<◌, ◌≤◌, Bool, true, false, cond, not, ◌&&◌, ◌||◌, ◌==◌, nat_le, List, [], ◌∷◌, ◌++◌, Option, Some, None, refl, sym, ◌∙◌, ap, ap₂, inl, inr, arith}
use Rattle.std.proofs.lemmas.Bool.{false≢true, and_parts, and_from, cases_Bool, cond-true, cond-false, eqb-true, eqb-false, eq-eqb, false_from_ne_true, le-leb, leb-true, ne_eqb, not-true, not_from_false, or_cases, or_left, or_right}
use Rattle.std.proofs.lemmas.Option.{same_Some}
use Rattle.dine_token.specs.declared.log_entry.Entry.{Entry}
use Rattle.dine_token.specs.declared.log_entry.Entry.TheVariants.{Move}
use Rattle.dine_token.specs.Fork.{SeenFork}
use Rattle.dine_token.specs.Log.{is_dirty, location_of, meals_of}
use Rattle.dine_token.proofs.shared.Logs.{is_dirty-push_move, location_of-push_move}
use Rattle.dine_graph.specs.Plan.{SeenPlan, job_count, lo_of, hi_of, resigns}
use Rattle.dine_rules.specs.declared.letters.Letter.{Letter}
use Rattle.dine_rules.specs.declared.letters.Letter.TheVariants.{Fork, Request, Done, Close}
use Rattle.dine_rules.specs.declared.breach.Breach.{Breach}
use Rattle.dine_rules.specs.declared.breach.Breach.TheVariants.{AfterClose, RequestOutOfTurn, ForkOutOfTurn, StrangeFork, DoneOutOfTurn, ClosedEarly}
use Rattle.dine_rules.specs.Letters.{has_done, has_close}
use Rattle.dine_rules.specs.Local.{LocalState, traffic_at, edge_at, neighbour_at}
use Rattle.dine_rules.specs.Holdings.{fork_at, token_at, hand_at}
use Rattle.dine_rules.specs.Breach.{number_of, was_sent_to, is_fork_of, has_all_of_neighbour, first_breach}
use Rattle.dine_rules.specs.BreachCauses.{Applies, IsRequestOutOfTurn, TokenIsHere, ForkIsAway, AskedAfterDone, AskedForOther, SenderAteAll, IsForkOutOfTurn, HasFork, HasToken, IsStrangeFork, OfOtherEdge, OfOtherEnds, OfOtherDue, NotSentHere, OtherMealsOfOurs, LacksMealsAfterDone, IsDoneOutOfTurn, DoneTwice, DoneBeforeAll, IsCloseEarly, DoneNotTaken, DoneNotPut}
use Rattle.dine_rules.proofs.one_site.PutBounds.{ends_in_move_here}

-- ---- the first of six tests

module _ (test : Breach → Bool) where
  -- the first breach whose test holds, in the order of their numbers
  abbrev first_of : Option Breach
  first_of = cond (test AfterClose) (Some AfterClose) (cond (test RequestOutOfTurn) (Some RequestOutOfTurn) (cond (test ForkOutOfTurn) (Some ForkOutOfTurn)
      (cond (test StrangeFork) (Some StrangeFork) (cond (test DoneOutOfTurn) (Some DoneOutOfTurn) (cond (test ClosedEarly) (Some ClosedEarly) None)))))

  -- what is found passes its test
  abbrev Passes : Option Breach → Type 0
  Passes found = (b : Breach) → found ≡ Some b → test b ≡ true

  passes_or : (b : Breach) (rest : Option Breach) → Passes rest → Passes (cond (test b) (Some b) rest)
  passes_or b rest later c h = elim (cases_Bool (test b)) [
    | inl holds ↦ ap test (sym (same_Some b c (sym (cond-true (test b) (Some b) rest holds) ∙ h))) ∙ holds
    | inr fails ↦ later c (sym (cond-false (test b) (Some b) rest fails) ∙ h)
  ]

  found_passes : Passes first_of
  found_passes = passes_or AfterClose _ (passes_or RequestOutOfTurn _ (passes_or ForkOutOfTurn _ (passes_or StrangeFork _ (passes_or DoneOutOfTurn _ (passes_or ClosedEarly None (λ b h. absurd cc))))))

  -- a breach with at most this number is found
  record IsFound (n : ℕ) (found : Option Breach) : Type 0 where
    breach : Breach
    is : found ≡ Some breach
    early : number_of breach ≤ n

  found_here : (b : Breach) (rest : Option Breach) → test b ≡ true → IsFound (number_of b) (cond (test b) (Some b) rest)
  found_here b rest holds = record { breach = b; is = cond-true (test b) (Some b) rest holds; early = omega arith }

  found_or : (b : Breach) (rest : Option Breach) (n : ℕ) → number_of b ≤ n → IsFound n rest → IsFound n (cond (test b) (Some b) rest)
  found_or b rest n early later = elim (cases_Bool (test b)) [
    | inl holds ↦ record { breach = b; is = cond-true (test b) (Some b) rest holds; early = early }
    | inr fails ↦ record { breach = later.breach; is = cond-false (test b) (Some b) rest fails ∙ later.is; early = later.early }
  ]

  -- where a test holds, its breach is found or an earlier one
  found_by : (b : Breach) → test b ≡ true → IsFound (number_of b) first_of
  found_by AfterClose h = found_here AfterClose _ h
  found_by RequestOutOfTurn h = found_or AfterClose _ 2 (omega arith) (found_here RequestOutOfTurn _ h)
  found_by ForkOutOfTurn h = found_or AfterClose _ 3 (omega arith) (found_or RequestOutOfTurn _ 3 (omega arith) (found_here ForkOutOfTurn _ h))
  found_by StrangeFork h = found_or AfterClose _ 4 (omega arith) (found_or RequestOutOfTurn _ 4 (omega arith) (found_or ForkOutOfTurn _ 4 (omega arith) (found_here StrangeFork _ h)))
  found_by DoneOutOfTurn h = found_or AfterClose _ 5 (omega arith) (found_or RequestOutOfTurn _ 5 (omega arith) (found_or ForkOutOfTurn _ 5 (omega arith) (found_or StrangeFork _ 5 (omega arith) (found_here DoneOutOfTurn _ h))))
  found_by ClosedEarly h = found_or AfterClose _ 6 (omega arith) (found_or RequestOutOfTurn _ 6 (omega arith) (found_or ForkOutOfTurn _ 6 (omega arith) (found_or StrangeFork _ 6 (omega arith) (found_or DoneOutOfTurn _ 6 (omega arith) (found_here ClosedEarly _ h)))))

  none_earlier : (b earlier : Breach) → first_of ≡ Some b → number_of earlier < number_of b → test earlier ≡ true → ⊥
  none_earlier b earlier h before holds =
      let w = found_by earlier holds in
      let same : w.breach ≡ b = same_Some w.breach b (sym w.is ∙ h) in
      omega (arith, w.early, ap number_of same)

  none_at_all : (b : Breach) → first_of ≡ None → test b ≡ true → ⊥
  none_at_all b h holds = let w = found_by b holds in let some : None ≡ Some w.breach = sym h ∙ w.is in absurd cc

-- ---- one of several tests

abbrev OneOf5 : Bool → Bool → Bool → Bool → Bool → Type 0
OneOf5 a b c d e = (a ≡ true) ⊎ ((b ≡ true) ⊎ ((c ≡ true) ⊎ ((d ≡ true) ⊎ (e ≡ true))))

one_of_5 : (a b c d e : Bool) → (a || b || c || d || e) ≡ true → OneOf5 a b c d e
one_of_5 true b c d e h = inl refl
one_of_5 false true c d e h = inr (inl refl)
one_of_5 false false true d e h = inr (inr (inl refl))
one_of_5 false false false true e h = inr (inr (inr (inl refl)))
one_of_5 false false false false true h = inr (inr (inr (inr refl)))
one_of_5 false false false false false h = absurd (false≢true h)

from_one_of_5 : (a b c d e : Bool) → OneOf5 a b c d e → (a || b || c || d || e) ≡ true
from_one_of_5 true b c d e h = refl
from_one_of_5 false true c d e h = refl
from_one_of_5 false false true d e h = refl
from_one_of_5 false false false true e h = refl
from_one_of_5 false false false false true h = refl
from_one_of_5 false false false false false (inl h) = h
from_one_of_5 false false false false false (inr (inl h)) = h
from_one_of_5 false false false false false (inr (inr (inl h))) = h
from_one_of_5 false false false false false (inr (inr (inr (inl h)))) = h
from_one_of_5 false false false false false (inr (inr (inr (inr h)))) = h

one_of_4 : (a b c d : Bool) → (a || b || c || d) ≡ true → OneOf5 a b c d false
one_of_4 true b c d h = inl refl
one_of_4 false true c d h = inr (inl refl)
one_of_4 false false true d h = inr (inr (inl refl))
one_of_4 false false false true h = inr (inr (inr (inl refl)))
one_of_4 false false false false h = absurd (false≢true h)

from_one_of_4 : (a b c d : Bool) → OneOf5 a b c d false → (a || b || c || d) ≡ true
from_one_of_4 true b c d h = refl
from_one_of_4 false true c d h = refl
from_one_of_4 false false true d h = refl
from_one_of_4 false false false true h = refl
from_one_of_4 false false false false (inl h) = h
from_one_of_4 false false false false (inr (inl h)) = h
from_one_of_4 false false false false (inr (inr (inl h))) = h
from_one_of_4 false false false false (inr (inr (inr (inl h)))) = h
from_one_of_4 false false false false (inr (inr (inr (inr h)))) = h

differs : (a b : ℕ) → not (a == b) ≡ true → a ≢ b
differs a b h = eqb-false a b (not-true (a == b) h)

from_differs : (a b : ℕ) → a ≢ b → not (a == b) ≡ true
from_differs a b h = not_from_false (a == b) (ne_eqb a b h)

-- a site that does not resign lacks meals where it neither resigns nor has all of them
lacks_meals : (resigning : Bool) (a b : ℕ) → not (resigning || a == b) ≡ true → (resigning ≡ false) × (a ≢ b)
lacks_meals true a b h = absurd (false≢true h)
lacks_meals false a b h = (refl, differs a b h)

from_lacks : (resigning : Bool) (a b : ℕ) → resigning ≡ false → a ≢ b → not (resigning || a == b) ≡ true
from_lacks true a b stays other = absurd (false≢true (sym stays))
from_lacks false a b stays other = from_differs a b other

-- ---- logs and forks

-- a log that ends in a Move to the site was sent there
sent_here : (lower s : ℕ) (before log : List Entry) → log ≡ before ++ Move s ∷ [] → was_sent_to lower s log ≡ true
sent_here lower s before log is = and_from _ _
    (not_from_false (is_dirty log) (ap is_dirty is ∙ is_dirty-push_move before s))
    (eq-eqb (location_of lower log) s (ap (location_of lower) is ∙ location_of-push_move lower before s))

module _ (plan : SeenPlan) (edge : ℕ) (fork : SeenFork) where
  -- the ends and due numbers of the edge
  abbrev ends : ℕ × ℕ
  ends = (lo_of plan edge, hi_of plan edge)

  abbrev due : ℕ × ℕ
  due = (job_count plan (lo_of plan edge), job_count plan (hi_of plan edge))

  abbrev same_ends : Bool
  same_ends = fork.ends.0 == lo_of plan edge && fork.ends.1 == hi_of plan edge

  abbrev same_due : Bool
  same_due = fork.due.0 == job_count plan (lo_of plan edge) && fork.due.1 == job_count plan (hi_of plan edge)

  -- a fork that is not of the edge differs in one of three
  not_own : is_fork_of plan edge fork ≡ false → (fork.edge ≢ edge) ⊎ ((fork.ends ≢ ends) ⊎ (fork.due ≢ due))
  not_own h = elim (cases_Bool (fork.edge == edge)) [
    | inr other ↦ inl (eqb-false fork.edge edge other)
    | inl same ↦ elim (cases_Bool same_ends) [
      | inr other ↦ inr (inl (λ is. false≢true (sym other ∙ and_from _ _ (eq-eqb _ _ (ap (λ (e : ℕ × ℕ). e.0) is)) (eq-eqb _ _ (ap (λ (e : ℕ × ℕ). e.1) is)))))
      | inl is_ends ↦ inr (inr (λ is. false≢true (sym h ∙ and_from _ _ (and_from _ _ same is_ends)
          (and_from _ _ (eq-eqb _ _ (ap (λ (e : ℕ × ℕ). e.0) is)) (eq-eqb _ _ (ap (λ (e : ℕ × ℕ). e.1) is))))))
    ]
  ]

  own_edge : is_fork_of plan edge fork ≡ true → fork.edge ≡ edge
  own_edge h = let parts = and_parts _ _ h in eqb-true _ _ (and_parts _ _ parts.0).0

  own_ends : is_fork_of plan edge fork ≡ true → fork.ends ≡ ends
  own_ends h =
      let parts = and_parts _ _ h in
      let front = and_parts _ _ parts.0 in
      let both = and_parts _ _ front.1 in
      ap₂ (λ (a b : ℕ). (a, b)) (eqb-true _ _ both.0) (eqb-true _ _ both.1)

  own_due : is_fork_of plan edge fork ≡ true → fork.due ≡ due
  own_due h =
      let parts = and_parts _ _ h in
      let both = and_parts _ _ parts.1 in
      ap₂ (λ (a b : ℕ). (a, b)) (eqb-true _ _ both.0) (eqb-true _ _ both.1)

-- ---- the tests of a letter

module _ (plan : SeenPlan) (s : ℕ) (state : LocalState) (i : ℕ) where
  abbrev there : ℕ
  there = neighbour_at plan s i

  abbrev done_taken : Bool
  done_taken = has_done (traffic_at state i).taken

  abbrev strange_test : SeenFork → Bool
  strange_test fork = not (is_fork_of plan (edge_at plan s i) fork) || not (was_sent_to (lo_of plan (edge_at plan s i)) s fork.log)
      || not (meals_of s fork.log == state.ate) || (done_taken && not (has_all_of_neighbour plan s state i fork.log))

  abbrev test : Letter → Breach → Bool
  test letter AfterClose = has_close (traffic_at state i).taken
  test (Request edge) RequestOutOfTurn = not (token_at plan s state i == 0) || not (fork_at plan s state i == 1) || done_taken || not (edge == edge_at plan s i)
      || nat_le (job_count plan there) (meals_of there (hand_at s state i))
  test (Fork fork) ForkOutOfTurn = not (fork_at plan s state i == 0) || not (token_at plan s state i == 0)
  test (Fork fork) StrangeFork = strange_test fork
  test Done DoneOutOfTurn = done_taken || (fork_at plan s state i == 1 && not (has_all_of_neighbour plan s state i (hand_at s state i)))
  test Close ClosedEarly = not done_taken || not (has_done (traffic_at state i).put)
  test letter breach = false

  -- the breach that is told is the first whose test holds
  told_is : (l : Letter) → first_breach plan s state i l ≡ first_of (test l)
  told_is (Request edge) = refl
  told_is (Fork fork) = refl
  told_is Done = refl
  told_is Close = refl

  -- a test holds where its breach applies
  strange_applies : (fork : SeenFork) → strange_test fork ≡ true → IsStrangeFork plan s state i fork
  strange_applies fork h = elim (one_of_4 _ _ _ _ h) [
    | inl other ↦ elim (not_own plan (edge_at plan s i) fork (not-true _ other)) [
      | inl edge ↦ OfOtherEdge edge
      | inr rest ↦ elim rest [ inl ends ↦ OfOtherEnds ends | inr due ↦ OfOtherDue due ]
    ]
    | inr rest ↦ elim rest [
      | inl sent ↦ NotSentHere (λ before is. false≢true (sym (not-true _ sent) ∙ sent_here (lo_of plan (edge_at plan s i)) s before fork.log is))
      | inr rest ↦ elim rest [
        | inl meals ↦ OtherMealsOfOurs (differs (meals_of s fork.log) state.ate meals)
        | inr rest ↦ elim rest [
          | inl done ↦ let parts = and_parts done_taken (not (has_all_of_neighbour plan s state i fork.log)) done in
              let lacks = lacks_meals (resigns plan there) (meals_of there fork.log) (job_count plan there) parts.1 in
              LacksMealsAfterDone lacks.0 parts.0 lacks.1
          | inr never ↦ absurd (false≢true never)
        ]
      ]
    ]
  ]

  applies : (l : Letter) (b : Breach) → test l b ≡ true → Applies plan s state i b l
  applies l AfterClose h = h
  applies (Request edge) RequestOutOfTurn h = elim (one_of_5 _ _ _ _ _ h) [
    | inl token ↦ TokenIsHere (differs (token_at plan s state i) 0 token)
    | inr rest ↦ elim rest [
      | inl fork ↦ ForkIsAway (differs (fork_at plan s state i) 1 fork)
      | inr rest ↦ elim rest [
        | inl done ↦ AskedAfterDone done
        | inr rest ↦ elim rest [
          | inl other ↦ AskedForOther (differs edge (edge_at plan s i) other)
          | inr all ↦ SenderAteAll (leb-true (job_count plan there) (meals_of there (hand_at s state i)) all)
        ]
      ]
    ]
  ]
  applies (Fork fork) ForkOutOfTurn h = elim (or_cases _ _ h) [
    | inl here ↦ HasFork (differs (fork_at plan s state i) 0 here)
    | inr token ↦ HasToken (differs (token_at plan s state i) 0 token)
  ]
  applies (Fork fork) StrangeFork h = strange_applies fork h
  applies Done DoneOutOfTurn h = elim (or_cases _ _ h) [
    | inl twice ↦ DoneTwice twice
    | inr before ↦ let parts = and_parts (fork_at plan s state i == 1) (not (has_all_of_neighbour plan s state i (hand_at s state i))) before in
        let lacks = lacks_meals (resigns plan there) (meals_of there (hand_at s state i)) (job_count plan there) parts.1 in
        DoneBeforeAll lacks.0 (eqb-true (fork_at plan s state i) 1 parts.0) lacks.1
  ]
  applies Close ClosedEarly h = elim (or_cases _ _ h) [
    | inl taken ↦ DoneNotTaken (not-true done_taken taken)
    | inr put ↦ DoneNotPut (not-true (has_done (traffic_at state i).put) put)
  ]
  applies l b h = absurd (false≢true h)

  -- and only there
  strange_from : (fork : SeenFork) → OneOf5 (not (is_fork_of plan (edge_at plan s i) fork)) (not (was_sent_to (lo_of plan (edge_at plan s i)) s fork.log)) (not (meals_of s fork.log == state.ate))
      (done_taken && not (has_all_of_neighbour plan s state i fork.log)) false → strange_test fork ≡ true
  strange_from fork h = from_one_of_4 (not (is_fork_of plan (edge_at plan s i) fork)) (not (was_sent_to (lo_of plan (edge_at plan s i)) s fork.log)) (not (meals_of s fork.log == state.ate))
      (done_taken && not (has_all_of_neighbour plan s state i fork.log)) h

  not_of_edge : (fork : SeenFork) → (is_fork_of plan (edge_at plan s i) fork ≡ true → ⊥) → strange_test fork ≡ true
  not_of_edge fork other = strange_from fork (inl (not_from_false _ (false_from_ne_true (is_fork_of plan (edge_at plan s i) fork) other)))

  strange_tested : (fork : SeenFork) → IsStrangeFork plan s state i fork → strange_test fork ≡ true
  strange_tested fork (OfOtherEdge other) = not_of_edge fork (λ own. other (own_edge plan (edge_at plan s i) fork own))
  strange_tested fork (OfOtherEnds other) = not_of_edge fork (λ own. other (own_ends plan (edge_at plan s i) fork own))
  strange_tested fork (OfOtherDue other) = not_of_edge fork (λ own. other (own_due plan (edge_at plan s i) fork own))
  strange_tested fork (NotSentHere other) = strange_from fork (inr (inl (not_from_false _ (false_from_ne_true (was_sent_to (lo_of plan (edge_at plan s i)) s fork.log) (λ sent.
      let w = ends_in_move_here (lo_of plan (edge_at plan s i)) s fork.log sent in other w.0 w.1)))))
  strange_tested fork (OtherMealsOfOurs other) = strange_from fork (inr (inr (inl (from_differs (meals_of s fork.log) state.ate other))))
  strange_tested fork (LacksMealsAfterDone stays done other) = strange_from fork (inr (inr (inr (inl (and_from _ _ done (from_lacks (resigns plan there) (meals_of there fork.log) (job_count plan there) stays other))))))

  request_from : (edge : ℕ) → OneOf5 (not (token_at plan s state i == 0)) (not (fork_at plan s state i == 1)) done_taken (not (edge == edge_at plan s i)) (nat_le (job_count plan there) (meals_of there (hand_at s state i)))
      → test (Request edge) RequestOutOfTurn ≡ true
  request_from edge h = from_one_of_5 (not (token_at plan s state i == 0)) (not (fork_at plan s state i == 1)) done_taken (not (edge == edge_at plan s i)) (nat_le (job_count plan there) (meals_of there (hand_at s state i))) h

  request_tested : (edge : ℕ) → IsRequestOutOfTurn plan s state i edge → test (Request edge) RequestOutOfTurn ≡ true
  request_tested edge (TokenIsHere other) = request_from edge (inl (from_differs (token_at plan s state i) 0 other))
  request_tested edge (ForkIsAway other) = request_from edge (inr (inl (from_differs (fork_at plan s state i) 1 other)))
  request_tested edge (AskedAfterDone done) = request_from edge (inr (inr (inl done)))
  request_tested edge (AskedForOther other) = request_from edge (inr (inr (inr (inl (from_differs edge (edge_at plan s i) other)))))
  request_tested edge (SenderAteAll all) = request_from edge (inr (inr (inr (inr (le-leb (job_count plan there) (meals_of there (hand_at s state i)) all)))))

  fork_tested : (fork : SeenFork) → IsForkOutOfTurn plan s state i → test (Fork fork) ForkOutOfTurn ≡ true
  fork_tested fork (HasFork other) = or_left _ _ (from_differs (fork_at plan s state i) 0 other)
  fork_tested fork (HasToken other) = or_right _ _ (from_differs (token_at plan s state i) 0 other)

  done_tested : IsDoneOutOfTurn plan s state i → test Done DoneOutOfTurn ≡ true
  done_tested (DoneTwice done) = or_left _ _ done
  done_tested (DoneBeforeAll stays one other) = or_right _ _ (and_from _ _ (eq-eqb (fork_at plan s state i) 1 one) (from_lacks (resigns plan there) (meals_of there (hand_at s state i)) (job_count plan there) stays other))

  close_tested : IsCloseEarly plan s state i → test Close ClosedEarly ≡ true
  close_tested (DoneNotTaken other) = or_left _ _ (not_from_false done_taken other)
  close_tested (DoneNotPut other) = or_right _ _ (not_from_false (has_done (traffic_at state i).put) other)

  tested : (l : Letter) (b : Breach) → Applies plan s state i b l → test l b ≡ true
  tested l AfterClose h = h
  tested (Request edge) RequestOutOfTurn h = request_tested edge h
  tested (Fork fork) ForkOutOfTurn h = fork_tested fork h
  tested (Fork fork) StrangeFork h = strange_tested fork h
  tested Done DoneOutOfTurn h = done_tested h
  tested Close ClosedEarly h = close_tested h
  tested l b h = absurd h

  -- the breach that is told applies, and no earlier one does
  pub told_applies : (l : Letter) (b : Breach) → first_breach plan s state i l ≡ Some b → Applies plan s state i b l
  told_applies l b h = applies l b (found_passes (test l) b (sym (told_is l) ∙ h))

  pub told_is_first : (l : Letter) (b earlier : Breach) → first_breach plan s state i l ≡ Some b → number_of earlier < number_of b → Applies plan s state i earlier l → ⊥
  told_is_first l b earlier h before is = none_earlier (test l) b earlier (sym (told_is l) ∙ h) before (tested l earlier is)

  -- where none is told, none applies
  pub none_applies : (l : Letter) (b : Breach) → first_breach plan s state i l ≡ None → Applies plan s state i b l → ⊥
  none_applies l b h is = none_at_all (test l) b (sym (told_is l) ∙ h) (tested l b is)
