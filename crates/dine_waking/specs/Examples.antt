-- Sites that may sleep, in worlds of small plans.
use Rattle.std.specs.Prelude.{ℕ, false, List, [], ◌∷◌, codes, replicate}
use Rattle.dine_token.specs.declared.log_entry.Entry.TheVariants.{Move}
use Rattle.dine_graph.specs.Plan.{SeenJob, SeenPlan, SeenSite, no_job}
use Rattle.dine_rules.specs.declared.letters.Letter.{Letter}
use Rattle.dine_rules.specs.declared.letters.Letter.TheVariants.{Fork, Request}
use Rattle.dine_rules.specs.declared.phase.Phase.{Phase}
use Rattle.dine_rules.specs.declared.phase.Phase.TheVariants.{Hungry, Thinking}
use Rattle.dine_rules.specs.Examples.{world_after_choices}
use Rattle.dine_rules.specs.Local.{LocalState}
use Rattle.dine_rules.specs.Schedules.{whole_run}
use Rattle.dine_rules.specs.Steps.{fork_by}
use Rattle.dine_rules.specs.World.{WorldState, state_of}
use Rattle.dine_site.specs.CoreWants.{wants_by_lists}
use Rattle.dine_waking.specs.Sleeping.{Coming}
use Rattle.dine_waking.specs.Runs.{Doing, GoesOn, Run, Sleeps, Thread}

-- a job with a name
abbrev pub named_job : SeenJob
named_job = record no_job { name = codes "j" }

-- a site with this name and this number of such jobs
abbrev pub site_of_jobs : List ℕ → ℕ → SeenSite
site_of_jobs name jobs = record { name = name; jobs = replicate jobs named_job; resigns = false }

-- two sites with an edge between them, and these numbers of jobs
abbrev pub two_sites : ℕ → ℕ → SeenPlan
two_sites a b = record { version = 1; sites = site_of_jobs (codes "a") a ∷ site_of_jobs (codes "b") b ∷ []; edges = (0, 1) ∷ []; values = 0 ∷ [] }

-- the two workers: two such sites, with one job each
abbrev pub two_workers : SeenPlan
two_workers = two_sites 1 1

-- three sites, of which the third has an edge with each of the others, with one job each
abbrev pub star : SeenPlan
star = record { version = 1; sites = site_of_jobs (codes "a") 1 ∷ site_of_jobs (codes "b") 1 ∷ site_of_jobs (codes "c") 1 ∷ []; edges = (0, 2) ∷ (1, 2) ∷ []; values = 0 ∷ 0 ∷ [] }

-- the fork of its first edge, on its way to the third site
abbrev pub fork_coming : Coming
fork_coming = record { place = 0; letter = Fork (fork_by star 0 (Move 2 ∷ [])) }

-- a site with one place that has begun no meal, in this phase, with these letters put and taken
abbrev pub state_in : Phase → List Letter → List Letter → LocalState
state_in phase put taken = record { phase = phase; ate = 0; must_quit = false; has_quit = false; traffic = record { put = put; taken = taken } ∷ [] }

-- the Request of the two workers
abbrev pub request : Letter
request = Request 0

-- the fork of the two workers, which the lower one gave before any meal
abbrev pub fork_given_first : Letter
fork_given_first = Fork (fork_by two_workers 0 (Move 1 ∷ []))

-- the two workers after the higher site grew hungry and asked for the fork
abbrev pub asked_world : WorldState
asked_world = state_in Thinking [] [] ∷ state_in Hungry (request ∷ []) [] ∷ []

-- the same two after the lower site grew hungry, took the Request and gave the fork
abbrev pub gave_world : WorldState
gave_world = state_in Hungry (fork_given_first ∷ []) (request ∷ []) ∷ state_in Hungry (request ∷ []) [] ∷ []

-- the star after its third site grew hungry and asked for both forks, and the first one gave its fork
abbrev pub given_world : WorldState
given_world = world_after_choices star (2 ∷ 2 ∷ 3 ∷ 0 ∷ 0 ∷ [])

-- the two workers at the end of a run
abbrev pub ended_world : WorldState
ended_world = (whole_run two_workers []).world

-- a thread that is at this, with these rings left in its bell
abbrev pub at_work : Doing → List ℕ → Thread
at_work doing bell = record { doing = doing; bell = bell }

-- a run of the two workers in which the higher site asked for the fork, rang, and fell asleep
abbrev pub asleep_run : Run
asleep_run = record { world = asked_world; threads = at_work GoesOn (0 ∷ []) ∷ at_work (Sleeps (wants_by_lists two_workers 1 (state_of asked_world 1))) [] ∷ []; is_open = false }

-- the same run after the lower site, which is polite, grew hungry, took the Request, gave the fork, rang, and woke the
-- higher one
abbrev pub woken_run : Run
woken_run = record { world = gave_world; threads = at_work GoesOn [] ∷ at_work GoesOn (0 ∷ []) ∷ []; is_open = false }
