-- Which letters a site may take, and why it may not take the others. A letter is allowed exactly if it meets no breach:
-- that is the law `allowed_letters_meet_no_breach`.
use Rattle.std.specs.Prelude.{ℕ, ◌==◌, ◌&&◌, ◌||◌, not, Bool, List, nat_lt, nat_le, Option, Some, None, if◌then◌else◌}
use Rattle.dine_token.specs.declared.log_entry.Entry.{Entry}
use Rattle.dine_token.specs.Fork.{SeenFork}
use Rattle.dine_token.specs.Log.{is_dirty, location_of, meals_of}
use Rattle.dine_graph.specs.Plan.{SeenPlan, job_count, lo_of, hi_of, resigns}
use Rattle.dine_rules.specs.declared.letters.Letter.{Letter}
use Rattle.dine_rules.specs.declared.letters.Letter.TheVariants.{Fork, Request, Done, Close}
use Rattle.dine_rules.specs.declared.breach.Breach.{Breach}
use Rattle.dine_rules.specs.declared.breach.Breach.TheVariants.{AfterClose, RequestOutOfTurn, ForkOutOfTurn, StrangeFork, DoneOutOfTurn, ClosedEarly}
use Rattle.dine_rules.specs.Letters.{has_done, has_close}
use Rattle.dine_rules.specs.Local.{LocalState, traffic_at, edge_at, neighbour_at}
use Rattle.dine_rules.specs.Holdings.{fork_at, token_at, hand_at}

-- the number of each breach, 1 to 6, in the order in which they are checked
abbrev pub number_of : Breach → ℕ
number_of AfterClose = 1
number_of RequestOutOfTurn = 2
number_of ForkOutOfTurn = 3
number_of StrangeFork = 4
number_of DoneOutOfTurn = 5
number_of ClosedEarly = 6

-- the log ends in a Move to the site: the fork was just sent to it, and is clean [paper: arrival]
abbrev pub was_sent_to : ℕ → ℕ → List Entry → Bool
was_sent_to lo s log = not (is_dirty log) && location_of lo log == s

-- the fork names this edge, and the ends and due numbers that the plan gives it
abbrev pub is_fork_of : SeenPlan → ℕ → SeenFork → Bool
is_fork_of plan edge fork = fork.edge == edge && (fork.ends.0 == lo_of plan edge && fork.ends.1 == hi_of plan edge)
    && (fork.due.0 == job_count plan (lo_of plan edge) && fork.due.1 == job_count plan (hi_of plan edge))

module _ (plan : SeenPlan) (s : ℕ) (state : LocalState) (i : ℕ) where
  -- the log has all meals that are due to the other end; or the other end resigns, and need not eat them all
  abbrev pub has_all_of_neighbour : List Entry → Bool
  has_all_of_neighbour log = resigns plan (neighbour_at plan s i) || meals_of (neighbour_at plan s i) log == job_count plan (neighbour_at plan s i)

  -- The letters that are allowed at place i before Close was taken. The sender is the other end of the edge.
  -- - Request: it names the edge of the place. The site holds the fork and not the token. Done was not taken. By the
  --   log in hand the sender has meals left.
  -- - Fork: it is the fork of the edge. The site holds neither fork nor token. The log ends in a Move to the site, and
  --   has as many meals of the site as it ate. If Done was taken, the log has all meals due to the sender, unless the
  --   sender resigns.
  -- - Done: it was not taken before. If the site holds the fork, the log in hand has all meals due to the sender,
  --   unless the sender resigns.
  -- - Close: Done was taken, and Done was put.
  -- [paper: arrival]
  abbrev pub may_come : Letter → Bool
  may_come (Request edge) = edge == edge_at plan s i && (token_at plan s state i == 0 && fork_at plan s state i == 1)
      && (not (has_done (traffic_at state i).taken) && nat_lt (meals_of (neighbour_at plan s i) (hand_at s state i)) (job_count plan (neighbour_at plan s i)))
  may_come (Fork fork) = is_fork_of plan (edge_at plan s i) fork && (fork_at plan s state i == 0 && token_at plan s state i == 0)
      && (was_sent_to (lo_of plan (edge_at plan s i)) s fork.log && meals_of s fork.log == state.ate)
      && (not (has_done (traffic_at state i).taken) || has_all_of_neighbour fork.log)
  may_come Done = not (has_done (traffic_at state i).taken) && (not (fork_at plan s state i == 1) || has_all_of_neighbour (hand_at s state i))
  may_come Close = has_done (traffic_at state i).taken && has_done (traffic_at state i).put

  -- the letter may be taken now: it may come, and no Close was taken before it
  abbrev pub is_allowed : Letter → Bool
  is_allowed letter = not (has_close (traffic_at state i).taken) && may_come letter

  -- why a letter is not allowed, if no Close was taken: the first of breaches 2 to 6 that applies
  abbrev pub breach_before_close : Letter → Option Breach
  breach_before_close (Request edge) =
      if not (token_at plan s state i == 0) || not (fork_at plan s state i == 1) || has_done (traffic_at state i).taken || not (edge == edge_at plan s i)
      || nat_le (job_count plan (neighbour_at plan s i)) (meals_of (neighbour_at plan s i) (hand_at s state i))
      then Some RequestOutOfTurn else None
  breach_before_close (Fork fork) =
      if not (fork_at plan s state i == 0) || not (token_at plan s state i == 0) then Some ForkOutOfTurn
      else (if not (is_fork_of plan (edge_at plan s i) fork) || not (was_sent_to (lo_of plan (edge_at plan s i)) s fork.log)
      || not (meals_of s fork.log == state.ate) || (has_done (traffic_at state i).taken && not (has_all_of_neighbour fork.log))
      then Some StrangeFork else None)
  breach_before_close Done =
      if has_done (traffic_at state i).taken || (fork_at plan s state i == 1 && not (has_all_of_neighbour (hand_at s state i)))
      then Some DoneOutOfTurn else None
  breach_before_close Close =
      if not (has_done (traffic_at state i).taken) || not (has_done (traffic_at state i).put) then Some ClosedEarly else None

  -- why a letter is not allowed: the first of the six breaches that applies, or none if it is allowed
  abbrev pub first_breach : Letter → Option Breach
  first_breach letter = if has_close (traffic_at state i).taken then Some AfterClose else breach_before_close letter
