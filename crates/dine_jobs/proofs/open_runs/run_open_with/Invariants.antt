use Rattle.std.specs.Prelude.{◌≡◌, ℕ, List, vec_len}
use Rattle.dine_graph.specs.Plan.{site_count}
use Rattle.std.specs.Global.{Vec}
use Rattle.dine_site_thread.specs.declared.diner.JobFault.{JobFault}
use Rattle.dine_site_thread.specs.declared.manner.Manner.{Manner}
use Rattle.dine_jobs.specs.Epochs.{HasEpochs}
use Rattle.dine_jobs.specs.Workers.{DoesTasks, IsFreshWorker, turn_of}
use Rattle.dine_jobs.specs.declared.edge_value.EdgeValue.{EdgeValue}
use Rattle.dine_jobs.specs.declared.executor.Worker.{Worker}
use Rattle.dine_jobs.proofs.open_runs.run_open_with.Given as goal

-- if the epochs that are left end with some turns and values, all epochs do
abbrev pub invariant-loop : goal.invariant-loop
invariant-loop g l =
    let W : Type 0 = Worker g.row.K.Denot g.row.O.Denot g.row.R.Denot in
    goal.F-IsAlwaysCallable g l.each
    × (vec_len l.turns ≡ site_count l.plan)
    × ((n : ℕ) (ended : List ℕ) (back : Vec (EdgeValue g.row.T.Denot))
    → HasEpochs {J = W} {F = JobFault} (IsFreshWorker l.patience) turn_of (DoesTasks (g.K.Task.gives)) (goal.F-step g) (Manner.OnCall 1) l.plan n l.each l.turns.items l.values ended back
    → (m : ℕ) × (first : List ℕ)
    × HasEpochs {J = W} {F = JobFault} (IsFreshWorker l.patience) turn_of (DoesTasks (g.K.Task.gives)) (goal.F-step g) (Manner.OnCall 1) l.plan m l.fn.each first l.fn.values ended back)
