-- Epochs of an open run, and the calls of the caller's function between them.
use Rattle.std.specs.Prelude.{◌≡◌, ℕ, zero, suc, All, Bool, List, map}
use Rattle.std.specs.Global.{Vec}
use Rattle.dine_graph.specs.Plan.{SeenPlan}
use Rattle.dine_site_thread.specs.declared.manner.Manner.{Manner}
use Rattle.dine_jobs.specs.declared.done.JobsDone.{JobsDone}
use Rattle.dine_jobs.specs.declared.done.SiteDone.{SiteDone}
use Rattle.dine_jobs.specs.declared.edge_value.EdgeValue.{EdgeValue}
use Rattle.dine_jobs.specs.declared.open_runs.EpochDone.{EpochDone}
use Rattle.dine_jobs.specs.JobRuns.{IsDoneRun}

module _ {S T J F : Type 0} (fresh : J → Type 0) (turn : J → ℕ) (after : J → ℕ → Bool → J → Type 0)
    (took : S → EpochDone J F → Unit {0} → S → Type 0) (manner : Manner) (plan : SeenPlan) where
  -- An epoch that was given `values`, and of each site the turn of its next task, went well: it is a whole run of fresh
  -- workers that have these turns, whose calls were as `after` says, and it left the turns `ended` and the values
  -- `back`. The function was called with its sites and its forks, and may be `next` after that.
  pub record IsEpoch (each : S) (turns : List ℕ) (values : Vec T) (ended : List ℕ) (back : Vec (EdgeValue T)) (next : S) : Type 0 where
    pub jobs : Vec J
    pub are_fresh : All fresh jobs.items
    pub in_turn : map turn jobs.items ≡ turns
    pub done : JobsDone T J F
    pub ran : IsDoneRun after manner plan values jobs done
    pub turns_left : ended ≡ map (λ (site : SiteDone J F). turn site.job) done.sites.items
    pub left : EpochDone J F
    pub same : (back ≡ done.values) × (left.sites ≡ done.sites) × (left.forks ≡ done.forks)
    pub called : took each left tt next

  -- n epochs and then a last one, each given the turns and the values that the one before left, of which the last one
  -- left `ended` and `back`
  abbrev pub HasEpochs : ℕ → S → List ℕ → Vec T → List ℕ → Vec (EdgeValue T) → Type 0
  HasEpochs zero each turns values ended back = (next : S) × IsEpoch each turns values ended back next
  HasEpochs (suc n) each turns values ended back = (between : Vec (EdgeValue T)) × (so_far : List ℕ) × (next : S)
      × IsEpoch each turns values so_far between next
      × (given : Vec T) × (given.items ≡ map (λ (it : EdgeValue T). it.value) between.items)
      × HasEpochs n next so_far given ended back
