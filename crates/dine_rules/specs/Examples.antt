-- Small plans and their runs, computed from the definitions.
use Rattle.std.specs.Prelude.{ℕ, true, false, ◌==◌, List, [], ◌∷◌, map, replicate, codes, drop, length, Option, if◌then◌else◌}
use Rattle.std.specs.List.{range_with_len}
use Rattle.dine_token.specs.declared.log_entry.Entry.{Entry}
use Rattle.dine_token.specs.declared.log_entry.Entry.TheVariants.{Meal, Move}
use Rattle.dine_token.specs.Fork.{SeenFork}
use Rattle.dine_graph.specs.Plan.{SeenPlan, SeenSite, no_job, edge_count}
use Rattle.dine_rules.specs.declared.events.Event.{Event}
use Rattle.dine_rules.specs.declared.breach.Breach.{Breach}
use Rattle.dine_rules.specs.declared.letters.LetterKind.{LetterKind}
use Rattle.dine_rules.specs.declared.letters.Letter.TheVariants.{Done, Fork}
use Rattle.dine_rules.specs.Letters.{kind_of}
use Rattle.dine_rules.specs.Local.{LocalState, start_of, traffic_at}
use Rattle.dine_rules.specs.Steps.{Ask, Break, Hungry, Take, after, fork_by}
use Rattle.dine_rules.specs.Breach.{first_breach}
use Rattle.dine_rules.specs.World.{WorldState, enabled_events, put_to, start, state_of}
use Rattle.dine_rules.specs.Precedence.{fork_log, preferred_end}
use Rattle.dine_rules.specs.Schedules.{Counted, from_here, replay, whole_run}

-- a site with this name and this number of jobs
abbrev pub site_with : List ℕ → ℕ → SeenSite
site_with name jobs = record { name = name; jobs = replicate jobs no_job; resigns = false }

-- two sites with an edge between them, and these numbers of jobs
abbrev pub pair : ℕ → ℕ → SeenPlan
pair a b = record { version = 1; sites = site_with (codes "a") a ∷ site_with (codes "b") b ∷ []; edges = (0, 1) ∷ []; values = 0 ∷ [] }

-- two sites with an edge between them: the lower one resigns, and the second of its three jobs fails; the higher one
-- has one job
abbrev pub resigning_pair : SeenPlan
resigning_pair = record {
  version = 2;
  sites = record { name = codes "a"; jobs = no_job ∷ record no_job { fails = true } ∷ no_job ∷ []; resigns = true } ∷ site_with (codes "b") 1 ∷ [];
  edges = (0, 1) ∷ [];
  values = 0 ∷ [];
}

-- one site alone, with two jobs
abbrev pub lone_site : SeenPlan
lone_site = record { version = 1; sites = site_with (codes "a") 2 ∷ []; edges = []; values = [] }

-- three sites in a row, with these numbers of jobs
abbrev pub row : ℕ → ℕ → ℕ → SeenPlan
row a b c = record { version = 1; sites = site_with (codes "a") a ∷ site_with (codes "b") b ∷ site_with (codes "c") c ∷ []; edges = (0, 1) ∷ (1, 2) ∷ []; values = 0 ∷ 0 ∷ [] }

-- three sites in a row, with one job each
abbrev pub path : SeenPlan
path = row 1 1 1

-- what a run leaves: the log of the fork of each edge, and the number of events
pub record Outcome : Type 0 where
  pub logs : List (List Entry)
  pub events : ℕ

-- the outcome of a run in the world where it ends
abbrev pub outcome_in : SeenPlan → Counted → Outcome
outcome_in plan run = record { logs = map (fork_log plan run.world) (range_with_len 0 (edge_count plan)); events = run.events }

-- the outcome of the choices, followed by the first enabled event again and again
abbrev pub outcome_of : SeenPlan → List ℕ → Outcome
outcome_of plan choices = outcome_in plan (whole_run plan choices)

-- the world after the choices
abbrev pub world_after_choices : SeenPlan → List ℕ → WorldState
world_after_choices plan choices = (replay plan (from_here (start plan)) choices).world

-- the events that are enabled after the choices
abbrev pub enabled_after : SeenPlan → List ℕ → List Event
enabled_after plan choices = enabled_events plan (world_after_choices plan choices)

-- the end of the first edge that has precedence after the choices
abbrev pub preferred_after : SeenPlan → List ℕ → ℕ
preferred_after plan choices = preferred_end plan (world_after_choices plan choices) 0

-- the end of the first edge that has precedence at the end of the whole run of the choices
abbrev pub preferred_at_end : SeenPlan → List ℕ → ℕ
preferred_at_end plan choices = preferred_end plan (whole_run plan choices).world 0

-- the kinds of the letters in the link to a site at place i, after the choices
abbrev pub next_after : SeenPlan → List ℕ → ℕ → ℕ → List LetterKind
next_after plan choices s i =
    let world = world_after_choices plan choices in
    map kind_of (drop (length (traffic_at (state_of world s) i).taken) (put_to plan world s i))

-- how many meals each site ate in the run of the first enabled events, if no event is enabled at its end
abbrev pub ends_complete : SeenPlan → List ℕ
ends_complete plan =
    let world = (whole_run plan []).world in
    if length (enabled_events plan world) == 0 then map (λ state. state.ate) world else []

-- the higher of two sites, after it grew hungry and asked for the fork
abbrev pub asker : SeenPlan → LocalState
asker plan = after plan 1 (after plan 1 (start_of plan 1) Hungry) (Ask 0)

-- the fork of two sites after one meal of the lower, on its way to the higher
abbrev pub fork_after_one : SeenPlan → SeenFork
fork_after_one plan = fork_by plan 0 (Meal 0 1 ∷ Move 1 ∷ [])

-- the breach of that Fork when it arrives at the asker
abbrev pub breach_of_fork : SeenPlan → Option Breach
breach_of_fork plan = first_breach plan 1 (asker plan) 0 (Fork (fork_after_one plan))

-- the breach of a Done that arrives after that Fork
abbrev pub breach_of_done : SeenPlan → Option Breach
breach_of_done plan = first_breach plan 1 (after plan 1 (asker plan) (Take 0 (Fork (fork_after_one plan)))) 0 Done

-- the higher site of a pair with a job each, which did a Break at the start
abbrev pub broken_off_site : LocalState
broken_off_site = after (pair 1 1) 1 (start_of (pair 1 1) 1) (Break 0)
