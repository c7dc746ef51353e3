-- What the calls of a site core do, in each state that the core represents.
use Rattle.std.specs.Prelude.{◌≡◌, ℕ, ◌<◌, ◌&&◌, Bool, List, length, Option}
use Rattle.std.specs.List.{list_all, range_with_len}
use Rattle.dine_token.specs.Fork.{SeenFork}
use Rattle.dine_graph.specs.Plan.{SeenPlan, IsPlan, site_count}
use Rattle.dine_rules.specs.declared.letters.Letter.{Letter}
use Rattle.dine_rules.specs.declared.breach.Breach.{Breach}
use Rattle.dine_rules.specs.Letters.{has_done, has_close}
use Rattle.dine_rules.specs.Local.{LocalState, start_of, traffic_at, is_thinking, has_no_job_left}
use Rattle.dine_rules.specs.Breach.{first_breach}
use Rattle.dine_rules.specs.Steps.{Step, LocalStep, may, after, with_put}
use Rattle.dine_rules.specs.Streams.{KeepsStreams}
use Rattle.dine_site.specs.Core.{SeenCore, Refines, forks_in_hand, tokens_in_hand}

-- The core is the core of a site of the plan, before its first step.
pub record IsFreshFor (plan : SeenPlan) (core : SeenCore) : Type 0 where
  pub is_plan : IsPlan plan
  pub is_site : core.site < site_count plan
  pub stands : Refines plan (start_of plan core.site) core

-- the same for some plan
abbrev pub IsFresh : SeenCore → Type 0
IsFresh core = (plan : SeenPlan) × IsFreshFor plan core

-- P holds of each state that keeps the streams and that the core represents
abbrev pub ForEachState : SeenCore → (SeenPlan → LocalState → Type 0) → Type 0
ForEachState core P = (plan : SeenPlan) (state : LocalState) → KeepsStreams plan core.site state → Refines plan state core → P plan state

-- the result is whether the site may do the step
abbrev pub ReportsMay : SeenCore → Step → Bool → Type 0
ReportsMay core step result = ForEachState core (λ plan state. result ≡ may plan core.site state step)

-- The core did the step. The state allowed it. The core is of the same site, and represents the state after the step.
-- That state keeps the streams.
pub record CoreStep (plan : SeenPlan) (state : LocalState) (step : Step) (old new : SeenCore) : Type 0 where
  pub allowed : LocalStep plan old.site state step (after plan old.site state step)
  pub site : new.site ≡ old.site
  pub stands : Refines plan (after plan old.site state step) new
  pub keeps : KeepsStreams plan new.site (after plan old.site state step)

-- the same for each state that keeps the streams and that the core represented
abbrev pub CoreSteps : Step → SeenCore → SeenCore → Type 0
CoreSteps step old new = ForEachState old (λ plan state. CoreStep plan state step old new)

-- the same, and the step puts this letter at place i
abbrev pub CorePuts : ℕ → Step → SeenCore → SeenCore → Letter → Type 0
CorePuts i step old new l = ForEachState old (λ plan state. (after plan old.site state step ≡ with_put i l state) × CoreStep plan state step old new)

-- the result is the first breach of the letter
abbrev pub ReportsBreach : SeenCore → ℕ → Letter → Option Breach → Type 0
ReportsBreach core i l result = ForEachState core (λ plan state. result ≡ first_breach plan core.site state i l)

-- the places of a state, from 0
abbrev pub all_places : LocalState → List ℕ
all_places state = range_with_len 0 (length state.traffic)

-- the forks are those that the site holds by the whole lists, in edge order
abbrev pub AreForksInHand : SeenCore → List SeenFork → Type 0
AreForksInHand core forks = ForEachState core (λ plan state. forks ≡ forks_in_hand plan core.site state (all_places state))

-- the tokens are those that the site holds by the whole lists, in edge order
abbrev pub AreTokensInHand : SeenCore → List ℕ → Type 0
AreTokensInHand core tokens = ForEachState core (λ plan state. tokens ≡ tokens_in_hand plan core.site state (all_places state))

-- the site is done: it thinks, it has no job left, and Done and Close were put and taken at every place
abbrev pub has_finished : SeenPlan → ℕ → LocalState → Bool
has_finished plan s state = is_thinking state.phase && has_no_job_left plan s state && list_all (λ i.
    has_done (traffic_at state i).put && has_done (traffic_at state i).taken && has_close (traffic_at state i).put && has_close (traffic_at state i).taken)
    (all_places state)

-- Close was put at every place
abbrev pub has_closed : LocalState → Bool
has_closed state = list_all (λ i. has_close (traffic_at state i).put) (all_places state)
