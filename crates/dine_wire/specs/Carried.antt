-- Links that carry bytes: what an end gets from the bytes of the other, if it keeps each fork that it gives away.
use Rattle.std.specs.Prelude.{◌≡◌, ℕ, ◌<◌, ◌==◌, List, ◌∷◌, Option, Some, None, length, map, slice_get, if◌then◌else◌}
use mathlib.Core.List.{IsPrefix}
use Rattle.dine_token.specs.Fork.{SeenFork}
use Rattle.dine_graph.specs.Plan.{SeenPlan, IsPlan, edges_of, lo_of, site_count}
use Rattle.dine_rules.specs.declared.letters.Letter.{Letter}
use Rattle.dine_rules.specs.declared.letters.Letter.TheVariants as letter
use Rattle.dine_rules.specs.Letters.{forks_among, forks_in}
use Rattle.dine_rules.specs.JoinedEnds.{AreEndsOfEdge, traffic_across}
use Rattle.dine_rules.specs.Local.{LocalState, Traffic, edge_at, traffic_at}
use Rattle.dine_rules.specs.Steps.{opened_fork}
use Rattle.dine_rules.specs.Streams.{KeepsStreams}
use Rattle.dine_rules.specs.World.{WorldState, state_of}
use Rattle.dine_wire.specs.Arrivals.{MayCarryOn, carried_on}
use Rattle.dine_wire.specs.Notes.{report_of}
use Rattle.dine_wire.specs.Runs.{bytes_in_run, of_run}

-- the bytes of the letter of this edge, in a run with this number
abbrev pub letter_bytes : ℕ → ℕ → Letter → List ℕ
letter_bytes run edge l = bytes_in_run run (record { edge = edge; report = report_of l })

-- the bytes of each letter, in order
abbrev pub bytes_of_each : ℕ → ℕ → List Letter → List (List ℕ)
bytes_of_each run edge letters = map (letter_bytes run edge) letters

-- The forks that an end of the edge keeps, in order: each Fork that it puts, as it is then. Before them the higher end
-- keeps the fork of the start, which is at the lower end.
abbrev pub kept_forks : SeenPlan → ℕ → ℕ → List Letter → List SeenFork
kept_forks plan s edge put = if lo_of plan edge == s then forks_among put else opened_fork plan edge ∷ forks_among put

-- The fork that an end keeps for the next Fork that it will take: the one behind as many as it took. If the fork is at
-- this end there is none.
abbrev pub fork_for_next : SeenPlan → ℕ → ℕ → Traffic → Option SeenFork
fork_for_next plan s edge traffic = slice_get (kept_forks plan s edge traffic.put) (forks_in traffic.taken)

-- The fork is the one that was kept, after some meals of the end where it was and a Move: that end may have done this.
pub record IsCarriedOn (plan : SeenPlan) (kept fork : SeenFork) : Type 0 where
  pub meals : ℕ
  pub may : MayCarryOn kept meals
  pub is : fork ≡ carried_on plan kept meals

-- a fork was kept, and the fork that arrives is that one, carried on
abbrev pub GoesOn : SeenPlan → Option SeenFork → SeenFork → Type 0
GoesOn plan None fork = ⊥
GoesOn plan (Some kept) fork = IsCarriedOn plan kept fork

-- the letter is one of the edge: a Fork goes on from the fork that was kept, and a Request names the edge
abbrev pub IsOfKept : SeenPlan → Option SeenFork → ℕ → Letter → Type 0
IsOfKept plan kept edge (letter.Fork fork) = GoesOn plan kept fork
IsOfKept plan kept edge (letter.Request of) = of ≡ edge
IsOfKept plan kept edge letter.Done = Unit {0}
IsOfKept plan kept edge letter.Close = Unit {0}

-- The letter is the one of the run that arrives with these bytes at an end of the edge, if the end keeps this fork, or
-- none.
pub record ArrivesWith (plan : SeenPlan) (run : ℕ) (kept : Option SeenFork) (edge : ℕ) (bytes : List ℕ) (l : Letter) : Type 0 where
  pub are : bytes ≡ letter_bytes run edge l
  pub of_kept : IsOfKept plan kept edge l

-- The k-th Fork that the end took goes on from the k-th fork that it kept, both from 0.
abbrev pub GoOnFromKept : SeenPlan → ℕ → ℕ → Traffic → Type 0
GoOnFromKept plan s edge traffic = (k : ℕ) (fork : SeenFork) → slice_get (forks_among traffic.taken) k ≡ Some fork
    → GoesOn plan (slice_get (kept_forks plan s edge traffic.put) k) fork

-- The end s took what arrived of its run, letter by letter in order; what else arrived, from anybody, it refused. What
-- arrived of the run is the first of the bytes that the other end put, in order, and each Fork goes on from the fork
-- that the end kept. Nothing else is said of the Forks, and nothing of what is of other runs.
pub record TakesByBytes (plan : SeenPlan) (run s edge : ℕ) (here there : Traffic) : Type 0 where
  pub arrived : List (List ℕ)
  pub takes : bytes_of_each run edge here.taken ≡ of_run run arrived
  pub comes : IsPrefix (of_run run arrived) (bytes_of_each run edge there.put)
  pub forks : GoOnFromKept plan s edge here

-- Two sites of one run at the two ends of an edge, in two processes. Each keeps its streams, and takes by bytes what
-- the other put.
pub record AreJoinedByBytes (plan : SeenPlan) (run s i other j : ℕ) (here there : LocalState) : Type 0 where
  pub is_plan : IsPlan plan
  pub ends : AreEndsOfEdge plan s i other j
  pub keeps : KeepsStreams plan s here
  pub keeps_there : KeepsStreams plan other there
  pub takes : TakesByBytes plan run s (edge_at plan s i) (traffic_at here i) (traffic_at there j)
  pub takes_there : TakesByBytes plan run other (edge_at plan s i) (traffic_at there j) (traffic_at here i)

-- All sites of a plan in one run, each in a process. Each keeps its streams, and takes by bytes at each of its places
-- what the other end put.
pub record AreAllJoinedByBytes (plan : SeenPlan) (run : ℕ) (states : WorldState) : Type 0 where
  pub is_plan : IsPlan plan
  pub keep : (s : ℕ) → s < site_count plan → KeepsStreams plan s (state_of states s)
  pub take : (s i : ℕ) → s < site_count plan → i < length (edges_of plan s)
      → TakesByBytes plan run s (edge_at plan s i) (traffic_at (state_of states s) i) (traffic_across plan states s i)
