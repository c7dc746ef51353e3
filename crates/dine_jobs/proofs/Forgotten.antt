-- Epochs whose function does nothing.
use Rattle.std.proofs.Common.{ℕ, zero, suc}
use Rattle.std.specs.Prelude.{Bool, List}
use Rattle.std.specs.Global.{Vec}
use Rattle.dine_graph.specs.Plan.{SeenPlan}
use Rattle.dine_site_thread.specs.declared.manner.Manner.{Manner}
use Rattle.dine_jobs.specs.Epochs.{HasEpochs, IsEpoch}
use Rattle.dine_jobs.specs.declared.edge_value.EdgeValue.{EdgeValue}
use Rattle.dine_jobs.specs.declared.open_runs.EpochDone.{EpochDone}

module _ {S T J F : Type 0} (fresh : J → Type 0) (turn : J → ℕ) (after : J → ℕ → Bool → J → Type 0)
    (took : S → EpochDone J F → Unit {0} → S → Type 0) (manner : Manner) (plan : SeenPlan) where
  -- an epoch is one, whatever becomes of the function
  forgotten_epoch : (each : S) (turns : List ℕ) (values : Vec T) (ended : List ℕ) (back : Vec (EdgeValue T)) (next : S)
      → IsEpoch fresh turn after took manner plan each turns values ended back next
      → IsEpoch {S = Unit {0}} {J = J} {F = F} fresh turn after (λ each left called next. Unit {0}) manner plan (tt {0}) turns values ended back (tt {0})
  forgotten_epoch each turns values ended back next epoch = record {
    jobs = epoch.jobs;
    are_fresh = epoch.are_fresh;
    in_turn = epoch.in_turn;
    done = epoch.done;
    ran = epoch.ran;
    turns_left = epoch.turns_left;
    left = epoch.left;
    same = epoch.same;
    called = tt;
  }

  pub forgotten : (n : ℕ) (each : S) (turns : List ℕ) (values : Vec T) (ended : List ℕ) (back : Vec (EdgeValue T))
      → HasEpochs fresh turn after took manner plan n each turns values ended back
      → HasEpochs {S = Unit {0}} {J = J} {F = F} fresh turn after (λ each left called next. Unit {0}) manner plan n (tt {0}) turns values ended back
  forgotten zero each turns values ended back has = (tt, forgotten_epoch each turns values ended back has.0 has.1)
  forgotten (suc n) each turns values ended back has =
      (has.0, has.1, tt, forgotten_epoch each turns values has.1 has.0 has.2 has.3, has.4, has.5, forgotten n has.2 has.1 has.4 ended back has.6)
