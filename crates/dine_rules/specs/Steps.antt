-- The steps of one site: what each needs, and what it changes.
use Rattle.std.specs.Prelude.{◌≡◌, ℕ, ◌+◌, ◌<◌, ◌==◌, ◌&&◌, ◌||◌, not, Bool, true, false, List, [], ◌∷◌, ◌++◌, length, nat_lt, slice_set, Option, Some, None, option_map}
use Rattle.std.specs.List.{list_all, range_with_len}
use Rattle.dine_token.specs.declared.log_entry.Entry.{Entry}
use Rattle.dine_token.specs.Fork.{SeenFork, after_move}
use Rattle.dine_token.specs.Log.{is_dirty}
use Rattle.dine_graph.specs.Plan.{SeenPlan, job_count, lo_of, hi_of, resigns, value_of}
use Rattle.dine_rules.specs.declared.events.EventKind.{EventKind}
use Rattle.dine_rules.specs.declared.events.EventKind.TheVariants as event
use Rattle.dine_rules.specs.declared.events.Shape.{Shape}
use Rattle.dine_rules.specs.declared.events.Shape.TheVariants.{Takes, Puts, Alone}
use Rattle.dine_rules.specs.declared.letters.Letter.{Letter}
use Rattle.dine_rules.specs.declared.letters.Letter.TheVariants as letter
use Rattle.dine_rules.specs.declared.letters.LetterKind.{LetterKind}
use Rattle.dine_rules.specs.declared.letters.LetterKind.TheVariants as letter_kind
use Rattle.dine_rules.specs.declared.phase.Phase.TheVariants as phase
use Rattle.dine_rules.specs.Letters.{has_done, has_close}
use Rattle.dine_rules.specs.Local.{LocalState, Traffic, traffic_at, edge_at, neighbour_at, is_thinking, is_hungry, is_eating, has_no_job_left}
use Rattle.dine_rules.specs.Holdings.{hand, fork_at, token_at, hand_at}
use Rattle.dine_rules.specs.Values.{hand_value, value_by}
use Rattle.dine_rules.specs.Breach.{is_allowed}

-- The steps of a site. A number is a place: a position in the list of the site's edges, from 0. End says whether the
-- job of the meal failed. Take takes a letter at its place. Break closes its place after a fault. Only a site on a
-- thread does a Break; a world in one thread never does.
pub data Step : Type 0 where
  Give : ℕ → Step
  Ask : ℕ → Step
  Hungry : Step
  Begin : Step
  End : Bool → Step
  Quit : Step
  Done : ℕ → Step
  Close : ℕ → Step
  Break : ℕ → Step
  Take : ℕ → Letter → Step

-- the fork of the edge with this log and this value, with the ends and due meals that the plan has
abbrev pub fork_with : SeenPlan → ℕ → List Entry → ℕ → SeenFork
fork_with plan edge log value = record {
  edge = edge;
  ends = (lo_of plan edge, hi_of plan edge);
  due = (job_count plan (lo_of plan edge), job_count plan (hi_of plan edge));
  log = log;
  value = value;
}

-- the fork of the edge with this log, and the value that the log gives
abbrev pub fork_by : SeenPlan → ℕ → List Entry → SeenFork
fork_by plan edge log = fork_with plan edge log (value_by plan edge log)

-- the fork of the edge at the start, with an empty log and the value of the plan [paper: start]
abbrev pub opened_fork : SeenPlan → ℕ → SeenFork
opened_fork plan edge = fork_with plan edge [] (value_of plan edge)

-- The fork in the hand of site s, an end of the edge. The site began `ate` meals and has this traffic at the edge. The
-- fork means something only if the site holds it. [paper: clean and dirty]
abbrev pub hand_fork : SeenPlan → ℕ → ℕ → ℕ → Traffic → SeenFork
hand_fork plan s edge ate traffic = fork_with plan edge (hand s ate traffic) (hand_value plan s edge ate traffic)

-- the fork in the hand of the site at place i
abbrev pub hand_fork_at : SeenPlan → ℕ → LocalState → ℕ → SeenFork
hand_fork_at plan s state i = hand_fork plan s (edge_at plan s i) state.ate (traffic_at state i)

-- the fork that a Give at place i sends: the fork in hand, with a Move to the other end [paper: release rule]
abbrev pub given_fork : SeenPlan → ℕ → LocalState → ℕ → SeenFork
given_fork plan s state i = after_move (neighbour_at plan s i) (hand_fork_at plan s state i)

-- the state after one more letter is put at place i
abbrev pub with_put : ℕ → Letter → LocalState → LocalState
with_put i l state = let traffic = traffic_at state i in
    record state { traffic = slice_set state.traffic i (record traffic { put = traffic.put ++ l ∷ [] }) }

-- the state after one more letter is taken at place i
abbrev pub with_taken : ℕ → Letter → LocalState → LocalState
with_taken i l state = let traffic = traffic_at state i in
    record state { traffic = slice_set state.traffic i (record traffic { taken = traffic.taken ++ l ∷ [] }) }

module _ (plan : SeenPlan) (s : ℕ) where
  -- the site has not put Close at place i
  abbrev pub is_open : LocalState → ℕ → Bool
  is_open state i = not (has_close (traffic_at state i).put)

  -- The site holds the fork of place i, and the fork is clean, or no request for it was taken: the token is not here.
  -- The neighbour's Request may be in the link.
  abbrev pub is_ready : LocalState → ℕ → Bool
  is_ready state i = fork_at plan s state i == 1 && (not (is_dirty (hand_at s state i)) || token_at plan s state i == 0)

  -- The site drops the jobs that it has left: the job of its meal failed, it resigns, and it has jobs left. The outcome
  -- of a meal changes nothing else. So a journal need not show any other failure.
  abbrev pub drops_jobs : LocalState → Bool → Bool
  drops_jobs state failed = failed && resigns plan s && nat_lt state.ate (job_count plan s)

  -- the site may grow hungry: it thinks, it has jobs left, it does not have to quit, and it has not quit
  abbrev pub may_grow_hungry : LocalState → Bool
  may_grow_hungry state = is_thinking state.phase && nat_lt state.ate (job_count plan s) && (not state.must_quit && not state.has_quit)

  -- What each step needs. A place has to be one of the site's places.
  -- - Give (release rule): the site does not eat, it holds fork and token, the fork is dirty, and Close was not put.
  -- - Ask (request rule): the site is hungry, it holds the token and not the fork, and Close was not put.
  -- - Hungry: as `may_grow_hungry` says.
  -- - Begin: the site is hungry and holds all forks, each of them clean, or no request for it was taken.
  -- - End: the site eats.
  -- - Quit: the site thinks and has to quit.
  -- - Done: the site thinks and has no job left, and neither Done nor Close was put.
  -- - Close: Done was put and taken, and Close was not put.
  -- - Break: the site does not eat, and Close was not put.
  -- - Take: the letter is allowed.
  -- [paper: request rule, release rule, all forks]
  abbrev pub may : LocalState → Step → Bool
  may state (Give i) = nat_lt i (length state.traffic) && (not (is_eating state.phase) && (fork_at plan s state i == 1 && token_at plan s state i == 1)
      && (is_dirty (hand_at s state i) && is_open state i))
  may state (Ask i) = nat_lt i (length state.traffic) && (is_hungry state.phase && (token_at plan s state i == 1 && fork_at plan s state i == 0) && is_open state i)
  may state Hungry = may_grow_hungry state
  may state Begin = is_hungry state.phase && list_all (is_ready state) (range_with_len 0 (length state.traffic))
  may state (End failed) = is_eating state.phase
  may state Quit = is_thinking state.phase && state.must_quit
  may state (Done i) = nat_lt i (length state.traffic) && (is_thinking state.phase && has_no_job_left plan s state
      && (not (has_done (traffic_at state i).put) && is_open state i))
  may state (Close i) = nat_lt i (length state.traffic) && (has_done (traffic_at state i).put && has_done (traffic_at state i).taken && is_open state i)
  may state (Break i) = nat_lt i (length state.traffic) && (not (is_eating state.phase) && is_open state i)
  may state (Take i l) = nat_lt i (length state.traffic) && is_allowed plan s state i l

  -- What each step changes.
  -- - Give puts the fork in hand, with a Move to the other end. Ask puts the token, as a Request.
  -- - Hungry and Begin change the phase. Begin also counts the meal.
  -- - End goes back to thinking. If the site drops its jobs, it has to quit. Quit notes that the site has quit.
  -- - Done puts Done. Close and Break put Close.
  -- - Take adds the letter to those that were taken.
  -- [paper: request rule, release rule, arrival]
  abbrev pub after : LocalState → Step → LocalState
  after state (Give i) = with_put i (letter.Fork (given_fork plan s state i)) state
  after state (Ask i) = with_put i (letter.Request (edge_at plan s i)) state
  after state Hungry = record state { phase = phase.Hungry }
  after state Begin = record state { phase = phase.Eating; ate = state.ate + 1 }
  after state (End failed) = record state { phase = phase.Thinking; must_quit = drops_jobs state failed }
  after state Quit = record state { must_quit = false; has_quit = true }
  after state (Done i) = with_put i letter.Done state
  after state (Close i) = with_put i letter.Close state
  after state (Break i) = with_put i letter.Close state
  after state (Take i l) = with_taken i l state

  -- One step of the site: the old state allows the step, and the new state is the one after it.
  pub record LocalStep (old : LocalState) (step : Step) (new : LocalState) : Type 0 where
    pub needs : may old step ≡ true
    pub changes : new ≡ after old step

-- the shape of each event
abbrev pub shape_of : EventKind → Shape
shape_of (event.Take i) = Takes i
shape_of (event.Give i) = Puts i
shape_of event.End = Alone
shape_of event.Begin = Alone
shape_of event.Quit = Alone
shape_of event.Hungry = Alone
shape_of (event.Ask i) = Puts i
shape_of (event.Done i) = Puts i
shape_of (event.Close i) = Puts i

-- the kind of the letter that an event puts, if it puts one
abbrev pub kind_put : EventKind → Option LetterKind
kind_put (event.Give i) = Some letter_kind.Fork
kind_put (event.Ask i) = Some letter_kind.Request
kind_put (event.Done i) = Some letter_kind.Done
kind_put (event.Close i) = Some letter_kind.Close
kind_put kind = None

-- the place of an event of this shape, if it has one, is less than n
abbrev pub IsPlaceWithin : ℕ → Shape → Type 0
IsPlaceWithin n (Takes i) = i < n
IsPlaceWithin n (Puts i) = i < n
IsPlaceWithin n Alone = Unit {0}

-- how an event of this shape changes the letters of its site: one more is taken at its place, one more is put there, or
-- none is
abbrev pub MovesBy : Shape → LocalState → LocalState → Type 0
MovesBy (Takes i) old new = (l : Letter) × (new ≡ with_taken i l old)
MovesBy (Puts i) old new = (l : Letter) × (new ≡ with_put i l old)
MovesBy Alone old new = new.traffic ≡ old.traffic

-- The step for an event. An End has the given outcome of the meal. A Take takes the next letter at its place. If there
-- is no letter, there is no step.
abbrev pub step_by : Bool → (ℕ → Option Letter) → EventKind → Option Step
step_by failed next (event.Take i) = option_map (Take i) (next i)
step_by failed next (event.Give i) = Some (Give i)
step_by failed next event.End = Some (End failed)
step_by failed next event.Begin = Some Begin
step_by failed next event.Quit = Some Quit
step_by failed next event.Hungry = Some Hungry
step_by failed next (event.Ask i) = Some (Ask i)
step_by failed next (event.Done i) = Some (Done i)
step_by failed next (event.Close i) = Some (Close i)
