-- The letters of a link, and what holds of the letters that a site puts and takes.
use Rattle.std.specs.Prelude.{◌≡◌, ℕ, ◌+◌, ◌<◌, ◌≤◌, ◌==◌, ◌&&◌, ◌||◌, not, Bool, true, false, List, [], ◌∷◌, ◌++◌, length, slice_get, Some, if◌then◌else◌}
use Rattle.dine_token.specs.declared.log_entry.Entry.{Entry}
use Rattle.dine_token.specs.declared.log_entry.Entry.TheVariants.{Move}
use Rattle.dine_token.specs.Fork.{SeenFork}
use Rattle.dine_token.specs.Log.{is_dirty, meals_of}
use Rattle.dine_token.specs.Lawful.{IsLawful}
use Rattle.dine_graph.specs.Plan.{SeenPlan, edges_of, job_count, lo_of, hi_of, other_of, resigns}
use Rattle.dine_rules.specs.declared.letters.Letter.{Letter}
use Rattle.dine_rules.specs.declared.letters.Letter.TheVariants.{Fork, Request, Done, Close}
use Rattle.dine_rules.specs.Letters.{forks_in, requests_in, has_done, has_close, last_log_or}
use Rattle.dine_rules.specs.Local.{LocalState, Traffic, traffic_at, edge_at, neighbour_at, is_thinking, is_hungry, is_eating, has_no_job_left}
use Rattle.dine_rules.specs.Holdings.{forks_held, fork_at, token_at, hand_at, meals_from}
use Rattle.dine_rules.specs.Values.{AreValuesChained}
use Rattle.dine_rules.specs.Breach.{was_sent_to, is_fork_of}
use Rattle.dine_rules.specs.Steps.{Step, Take}

-- Forks and Requests alternate, with any other letters between them. `fork_next` says whether the first of them is a
-- Fork.
abbrev pub is_alternating : Bool → List Letter → Bool
is_alternating fork_next [] = true
is_alternating fork_next (Fork fork ∷ letters) = fork_next && is_alternating false letters
is_alternating fork_next (Request edge ∷ letters) = not fork_next && is_alternating true letters
is_alternating fork_next (Done ∷ letters) = is_alternating fork_next letters
is_alternating fork_next (Close ∷ letters) = is_alternating fork_next letters

-- at most one Done, and no Request after it
abbrev pub is_done_last : List Letter → Bool
is_done_last [] = true
is_done_last (Done ∷ letters) = not (has_done letters) && requests_in letters == 0
is_done_last (Fork fork ∷ letters) = is_done_last letters
is_done_last (Request edge ∷ letters) = is_done_last letters
is_done_last (Close ∷ letters) = is_done_last letters

-- no letter after Close
abbrev pub is_close_last : List Letter → Bool
is_close_last [] = true
is_close_last (Close ∷ []) = true
is_close_last (Close ∷ letter ∷ letters) = false
is_close_last (Fork fork ∷ letters) = is_close_last letters
is_close_last (Request edge ∷ letters) = is_close_last letters
is_close_last (Done ∷ letters) = is_close_last letters

-- The letters of one link, or the first ones of them. Forks and Requests alternate. The first of them is a Fork if the
-- lower end puts them, and a Request if the higher end does. There is at most one Done, no Request comes after it, and
-- nothing comes after Close. [paper: request rule, release rule]
pub record IsLawfulStream (from_lower : Bool) (letters : List Letter) : Type 0 where
  pub alternating : is_alternating from_lower letters ≡ true
  pub done_last : is_done_last letters ≡ true
  pub close_last : is_close_last letters ≡ true

-- each Close has a Done before it
abbrev pub is_orderly : List Letter → Bool
is_orderly [] = true
is_orderly (Done ∷ letters) = true
is_orderly (Close ∷ letters) = false
is_orderly (Fork fork ∷ letters) = is_orderly letters
is_orderly (Request edge ∷ letters) = is_orderly letters

-- Each Close has a Done before it, and the last letter is Close.
pub record IsClosedInOrder (letters : List Letter) : Type 0 where
  pub orderly : is_orderly letters ≡ true
  pub before_close : List Letter
  pub ends_in_close : letters ≡ before_close ++ Close ∷ []

-- the logs of the Forks among the letters, in order
abbrev pub logs_of : List Letter → List (List Entry)
logs_of [] = []
logs_of (Fork fork ∷ letters) = fork.log ∷ logs_of letters
logs_of (Request edge ∷ letters) = logs_of letters
logs_of (Done ∷ letters) = logs_of letters
logs_of (Close ∷ letters) = logs_of letters

-- The log is `before`, then meals of the site, whose numbers go on from those in `before`, then a Move to the other
-- end. [paper: release rule]
pub record CarriesOn (s to : ℕ) (before log : List Entry) : Type 0 where
  pub meals : ℕ
  pub is : log ≡ before ++ meals_from s (meals_of s before + 1) meals ++ Move to ∷ []

-- As `CarriesOn`, and at least one meal was added. [paper: clean and dirty]
pub record CarriesOnEaten (s to : ℕ) (before log : List Entry) : Type 0 where
  pub meals : ℕ
  pub some : 1 ≤ meals
  pub is : log ≡ before ++ meals_from s (meals_of s before + 1) meals ++ Move to ∷ []

-- The k-th log taken, from 0, exists, and the log carries it on with at least one meal.
pub record CarriesOnTaken (s to : ℕ) (taken : List (List Entry)) (k : ℕ) (log : List Entry) : Type 0 where
  pub before : List Entry
  pub is_taken : slice_get taken k ≡ Some before
  pub carries : CarriesOnEaten s to before log

-- The log of each Fork that a site puts at an edge carries on an earlier log: this log, then meals of the site, then a
-- Move (`CarriesOn`). Number the Forks put and the Forks taken, each from 0.
-- - At the lower end, Fork 0 carries on the empty log, and need not have a meal. Fork k + 1 carries on the k-th Fork
--   taken, with at least one meal.
-- - At the higher end, Fork k carries on the k-th Fork taken, with at least one meal.
-- - If the site does not hold the fork, the log of the last Fork that it put has all meals that the site ate. If it put
--   none, it ate none.
-- [paper: clean and dirty, release rule]
pub record IsChained (plan : SeenPlan) (s edge ate : ℕ) (traffic : Traffic) : Type 0 where
  pub first : (lo_of plan edge == s) ≡ true → (log : List Entry) → slice_get (logs_of traffic.put) 0 ≡ Some log → CarriesOn s (other_of plan edge s) [] log
  pub next : (lo_of plan edge == s) ≡ true → (k : ℕ) (log : List Entry) → slice_get (logs_of traffic.put) (k + 1) ≡ Some log → CarriesOnTaken s (other_of plan edge s) (logs_of traffic.taken) k log
  pub answers : (lo_of plan edge == s) ≡ false → (k : ℕ) (log : List Entry) → slice_get (logs_of traffic.put) k ≡ Some log → CarriesOnTaken s (other_of plan edge s) (logs_of traffic.taken) k log
  pub last : forks_held plan s edge traffic ≡ 0 → meals_of s (last_log_or [] traffic.put) ≡ ate

-- each Fork among the letters is the fork of the edge, and has a lawful log
abbrev pub AreLawfulForks : SeenPlan → ℕ → List Letter → Type 0
AreLawfulForks plan edge letters = (k : ℕ) (fork : SeenFork) → slice_get letters k ≡ Some (Fork fork)
    → (is_fork_of plan edge fork ≡ true) × IsLawful fork.ends fork.due fork.log

-- each Request among the letters names the edge
abbrev pub AreRequestsOf : ℕ → List Letter → Type 0
AreRequestsOf edge letters = (k e : ℕ) → slice_get letters k ≡ Some (Request e) → e ≡ edge

-- the site is the lower end of the edge at place i
abbrev pub is_lower_at : SeenPlan → ℕ → ℕ → Bool
is_lower_at plan s i = lo_of plan (edge_at plan s i) == s

-- the ends of the edge at place i, (lower, higher)
abbrev pub ends_at_place : SeenPlan → ℕ → ℕ → ℕ × ℕ
ends_at_place plan s i = (lo_of plan (edge_at plan s i), hi_of plan (edge_at plan s i))

-- the meals due to the ends of the edge at place i, (lower, higher)
abbrev pub due_at_place : SeenPlan → ℕ → ℕ → ℕ × ℕ
due_at_place plan s i = (job_count plan (lo_of plan (edge_at plan s i)), job_count plan (hi_of plan (edge_at plan s i)))

-- The site asked for the fork, and has not eaten since. So it has neither fork nor token, or it has the fork clean in
-- hand.
abbrev pub has_asked_since_meal : SeenPlan → ℕ → LocalState → ℕ → Bool
has_asked_since_meal plan s state i = (fork_at plan s state i == 0 && token_at plan s state i == 0)
    || (fork_at plan s state i == 1 && not (is_dirty (hand_at s state i)))

-- What holds at one place of a site in every state that its steps reach, whatever letters arrive there.
-- [paper: one fork, clean and dirty, request rule, release rule, arrival]
pub record KeepsStreamsAt (plan : SeenPlan) (s : ℕ) (state : LocalState) (i : ℕ) : Type 0 where
  -- the letters put: a lawful stream; the Forks are of this edge, with lawful logs, chained, and so are their values;
  -- the Requests name this edge
  pub put_lawful : IsLawfulStream (is_lower_at plan s i) (traffic_at state i).put
  pub put_chained : IsChained plan s (edge_at plan s i) state.ate (traffic_at state i)
  pub put_values : AreValuesChained plan s (edge_at plan s i) (traffic_at state i)
  pub put_forks : AreLawfulForks plan (edge_at plan s i) (traffic_at state i).put
  pub put_requests : AreRequestsOf (edge_at plan s i) (traffic_at state i).put
  -- the letters taken: a lawful stream of the other direction, with Done before Close; the Forks are of this edge, with
  -- lawful logs; the Requests name this edge
  pub taken_lawful : IsLawfulStream (not (is_lower_at plan s i)) (traffic_at state i).taken
  pub taken_orderly : is_orderly (traffic_at state i).taken ≡ true
  pub taken_forks : AreLawfulForks plan (edge_at plan s i) (traffic_at state i).taken
  pub taken_requests : AreRequestsOf (edge_at plan s i) (traffic_at state i).taken
  -- each Fork taken was sent to this site, and the last one has at most as many meals of this site as it ate
  pub forks_come_here : (k : ℕ) (fork : SeenFork) → slice_get (traffic_at state i).taken k ≡ Some (Fork fork) → was_sent_to (lo_of plan (edge_at plan s i)) s fork.log ≡ true
  pub last_within : meals_of s (last_log_or [] (traffic_at state i).taken) ≤ state.ate
  -- forks here and Forks put are together as many as forks at the start and Forks taken; the same holds of tokens and
  -- Requests; and at most one fork and one token are here
  pub forks_counted : fork_at plan s state i + forks_in (traffic_at state i).put ≡ (if is_lower_at plan s i then 1 else 0) + forks_in (traffic_at state i).taken
  pub tokens_counted : token_at plan s state i + requests_in (traffic_at state i).put ≡ (if is_lower_at plan s i then 0 else 1) + requests_in (traffic_at state i).taken
  pub one_fork : fork_at plan s state i ≤ 1
  pub one_token : token_at plan s state i ≤ 1
  -- there are no more Forks put than Requests taken, and no more Forks taken than Requests put
  pub given_when_asked : forks_in (traffic_at state i).put ≤ requests_in (traffic_at state i).taken
  pub comes_when_asked : forks_in (traffic_at state i).taken ≤ requests_in (traffic_at state i).put
  -- a fork in hand has a lawful log, and if it is clean the site is hungry
  pub hand_lawful : fork_at plan s state i ≡ 1 → IsLawful (ends_at_place plan s i) (due_at_place plan s i) (hand_at s state i)
  pub clean_is_hungry : fork_at plan s state i ≡ 1 → is_dirty (hand_at s state i) ≡ false → is_hungry state.phase ≡ true
  -- if the site has neither fork nor token, it is hungry
  pub waiter_is_hungry : fork_at plan s state i ≡ 0 → token_at plan s state i ≡ 0 → is_hungry state.phase ≡ true
  -- if the site holds fork and token, the neighbour that asked has meals left, by the log in hand
  pub asker_has_left : fork_at plan s state i ≡ 1 → token_at plan s state i ≡ 1 → meals_of (neighbour_at plan s i) (hand_at s state i) < job_count plan (neighbour_at plan s i)
  -- there are at most as many Requests put as meals; or one more, if the site asked and has not eaten since
  pub requests_within : requests_in (traffic_at state i).put ≤ state.ate + (if has_asked_since_meal plan s state i then 1 else 0)
  -- if the site has put Done, it has no job left, and thinks
  pub done_after_all : has_done (traffic_at state i).put ≡ true → has_no_job_left plan s state ≡ true
  pub done_thinks : has_done (traffic_at state i).put ≡ true → is_thinking state.phase ≡ true
  -- if the site has taken Close, it has put Done
  pub closed_after : has_close (traffic_at state i).taken ≡ true → has_done (traffic_at state i).put ≡ true

-- the site may drop jobs: it resigns, it thinks, and it ate fewer meals than are due to it
abbrev pub MayDropJobs : SeenPlan → ℕ → LocalState → Type 0
MayDropJobs plan s state = (resigns plan s ≡ true) × (is_thinking state.phase ≡ true) × (state.ate < job_count plan s)

-- What holds of a site in every state that its steps reach. `KeepsStreamsAt` holds at each of its places. It ate at
-- most the meals that are due to it, fewer if it is hungry, and at least one if it eats. If it has to quit, or has
-- quit, then it resigns, it thinks, and it ate fewer meals than are due. A site that has to quit has not quit before.
pub record KeepsStreams (plan : SeenPlan) (s : ℕ) (state : LocalState) : Type 0 where
  pub places : (i : ℕ) → i < length state.traffic → KeepsStreamsAt plan s state i
  pub every_place : length state.traffic ≡ length (edges_of plan s)
  pub ate_within : state.ate ≤ job_count plan s
  pub hungry_has_left : is_hungry state.phase ≡ true → state.ate < job_count plan s
  pub eater_has_begun : is_eating state.phase ≡ true → 1 ≤ state.ate
  pub must_drop : state.must_quit ≡ true → MayDropJobs plan s state
  pub has_dropped : state.has_quit ≡ true → MayDropJobs plan s state
  pub quits_once : state.must_quit ≡ true → state.has_quit ≡ false

-- What a site put at place i is in order, by the number of meals that it ate and by what it took there. The letters put
-- are a lawful stream. Their Forks are of the edge of the place, with lawful logs, and logs and values are chained.
-- Their Requests name that edge.
pub record IsPutInOrder (plan : SeenPlan) (s i ate : ℕ) (traffic : Traffic) : Type 0 where
  pub lawful : IsLawfulStream (is_lower_at plan s i) traffic.put
  pub chained : IsChained plan s (edge_at plan s i) ate traffic
  pub values : AreValuesChained plan s (edge_at plan s i) traffic
  pub forks : AreLawfulForks plan (edge_at plan s i) traffic.put
  pub requests : AreRequestsOf (edge_at plan s i) traffic.put

-- If the step takes a Fork, its log is lawful. Each value of the type `Fork` has a lawful log. Nothing else is required
-- of the letters that arrive.
abbrev pub IsProper : Step → Type 0
IsProper (Take i (Fork fork)) = IsLawful fork.ends fork.due fork.log
IsProper _ = Unit {0}
