-- each step is computed
use Rattle.std.proofs.Common.{[], ◌∷◌, false, refl, arith}
use Rattle.dine_rules.specs.declared.letters.LetterKind.TheVariants as kind
use Rattle.dine_waking.specs.Examples.{asleep_run, at_work, two_workers, woken_run}
use Rattle.dine_waking.specs.Runs.{ByRinging, ByWaking, HasToWake, IsToBeWoken, Run, RunStep}
use Rattle.dine_waking.proofs.TwoSites.{is_plan}
use Rattle.dine_waking.proofs.TwoWorkers.{asker, asks, asks_for_fork, falls_asleep, gave_fork, gives, grows_hungry, grows_hungry_too, heard_ring, hears, hungry, hungry_too, low_gave, lower_does, moment, rang, rings_for_request, sleeper, takes, took_request}
use Rattle.dine_waking.proofs.laws.two_workers_run_as_worked.Goals as goal

abbrev rang_for_fork : Run
rang_for_fork = moment low_gave asker (at_work (HasToWake 0) []) (at_work (IsToBeWoken 0) (0 ∷ []))

rings_for_fork : RunStep two_workers (gave_fork (sleeper [])) rang_for_fork
rings_for_fork = lower_does (gave_fork (sleeper [])) rang_for_fork (ByRinging (record { i = 0; kind = kind.Fork; anyway = false; rings = refl; world = refl; as_open = refl; threads = refl }))

wakes : RunStep two_workers rang_for_fork woken_run
wakes = lower_does rang_for_fork woken_run (ByWaking (record { i = 0; wakes = refl; woken = refl; world = refl; as_open = refl; threads = refl }))

pub returns : goal.returns
returns c =
    let h = sleeper [] in record {
      plan = is_plan 1 1 (omega arith) (omega arith);
      asleep = (hungry, grows_hungry, (asks, asks_for_fork, (rang, rings_for_request, (asleep_run, falls_asleep, refl))));
      woken = (hungry_too h, grows_hungry_too h, (heard_ring h, hears h, (took_request h, takes h, (gave_fork h, gives h, (rang_for_fork, rings_for_fork, (woken_run, wakes, refl))))));
    }
