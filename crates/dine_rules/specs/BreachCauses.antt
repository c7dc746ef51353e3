-- Each breach by itself: when it applies to a letter. If several apply, the first of them is reported: that is the law
-- `first_breach_is_first`.
use Rattle.std.specs.Prelude.{◌≡◌, ◌≢◌, ℕ, ◌≤◌, true, false, List, [], ◌∷◌, ◌++◌}
use Rattle.dine_token.specs.declared.log_entry.Entry.{Entry}
use Rattle.dine_token.specs.declared.log_entry.Entry.TheVariants.{Move}
use Rattle.dine_token.specs.Fork.{SeenFork}
use Rattle.dine_token.specs.Log.{meals_of}
use Rattle.dine_graph.specs.Plan.{SeenPlan, job_count, resigns}
use Rattle.dine_rules.specs.declared.letters.Letter.{Letter}
use Rattle.dine_rules.specs.declared.letters.Letter.TheVariants.{Fork, Request, Done, Close}
use Rattle.dine_rules.specs.declared.breach.Breach.{Breach}
use Rattle.dine_rules.specs.declared.breach.Breach.TheVariants.{AfterClose, RequestOutOfTurn, ForkOutOfTurn, StrangeFork, DoneOutOfTurn, ClosedEarly}
use Rattle.dine_rules.specs.Letters.{has_done, has_close}
use Rattle.dine_rules.specs.Local.{LocalState, traffic_at, edge_at, neighbour_at}
use Rattle.dine_rules.specs.Holdings.{fork_at, token_at, hand_at}
use Rattle.dine_rules.specs.Streams.{ends_at_place, due_at_place}

module _ (plan : SeenPlan) (s : ℕ) (state : LocalState) (i : ℕ) where
  -- A Request is out of turn in five cases: the token is here; the fork is not here; Done was taken; the Request names
  -- another edge; or the log in hand has all meals that are due to its sender.
  pub data IsRequestOutOfTurn (edge : ℕ) : Type 0 where
    TokenIsHere : token_at plan s state i ≢ 0 → IsRequestOutOfTurn edge
    ForkIsAway : fork_at plan s state i ≢ 1 → IsRequestOutOfTurn edge
    AskedAfterDone : has_done (traffic_at state i).taken ≡ true → IsRequestOutOfTurn edge
    AskedForOther : edge ≢ edge_at plan s i → IsRequestOutOfTurn edge
    SenderAteAll : job_count plan (neighbour_at plan s i) ≤ meals_of (neighbour_at plan s i) (hand_at s state i) → IsRequestOutOfTurn edge

  -- A Fork is out of turn if the fork or the token is here.
  pub data IsForkOutOfTurn : Type 0 where
    HasFork : fork_at plan s state i ≢ 0 → IsForkOutOfTurn
    HasToken : token_at plan s state i ≢ 0 → IsForkOutOfTurn

  -- A Fork is strange in six cases: it names another edge, other ends or other due numbers; its log does not end in a
  -- Move to this site; its log has another number of meals of this site than it ate; or it comes after Done without all
  -- meals that are due to its sender, and the sender does not resign.
  pub data IsStrangeFork (fork : SeenFork) : Type 0 where
    OfOtherEdge : fork.edge ≢ edge_at plan s i → IsStrangeFork fork
    OfOtherEnds : fork.ends ≢ ends_at_place plan s i → IsStrangeFork fork
    OfOtherDue : fork.due ≢ due_at_place plan s i → IsStrangeFork fork
    NotSentHere : ((before : List Entry) → fork.log ≢ before ++ Move s ∷ []) → IsStrangeFork fork
    OtherMealsOfOurs : meals_of s fork.log ≢ state.ate → IsStrangeFork fork
    LacksMealsAfterDone : resigns plan (neighbour_at plan s i) ≡ false → has_done (traffic_at state i).taken ≡ true → meals_of (neighbour_at plan s i) fork.log ≢ job_count plan (neighbour_at plan s i) → IsStrangeFork fork

  -- Done is out of turn if it was taken before. It is also out of turn if the fork is here without all meals that are
  -- due to the sender, and the sender does not resign.
  pub data IsDoneOutOfTurn : Type 0 where
    DoneTwice : has_done (traffic_at state i).taken ≡ true → IsDoneOutOfTurn
    DoneBeforeAll : resigns plan (neighbour_at plan s i) ≡ false → fork_at plan s state i ≡ 1 → meals_of (neighbour_at plan s i) (hand_at s state i) ≢ job_count plan (neighbour_at plan s i) → IsDoneOutOfTurn

  -- Close is early if Done was not taken, or was not put.
  pub data IsCloseEarly : Type 0 where
    DoneNotTaken : has_done (traffic_at state i).taken ≡ false → IsCloseEarly
    DoneNotPut : has_done (traffic_at state i).put ≡ false → IsCloseEarly

  -- the breach applies to the letter: `AfterClose` to each letter, if Close was taken; each other breach to letters of
  -- one kind
  abbrev pub Applies : Breach → Letter → Type 0
  Applies AfterClose letter = has_close (traffic_at state i).taken ≡ true
  Applies RequestOutOfTurn (Request edge) = IsRequestOutOfTurn edge
  Applies ForkOutOfTurn (Fork fork) = IsForkOutOfTurn
  Applies StrangeFork (Fork fork) = IsStrangeFork fork
  Applies DoneOutOfTurn Done = IsDoneOutOfTurn
  Applies ClosedEarly Close = IsCloseEarly
  Applies breach letter = ⊥
