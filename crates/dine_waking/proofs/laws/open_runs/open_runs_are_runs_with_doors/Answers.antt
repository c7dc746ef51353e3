use Rattle.dine_waking.specs.OpenRuns.{first_open_run}
use Rattle.dine_waking.proofs.OpenRuns.{open_door_leads, open_leads}
use Rattle.dine_waking.proofs.laws.open_runs.open_runs_are_runs_with_doors.Goals as goal

pub returns : goal.returns
returns c = record {
  run = λ plan n at leads. open_leads plan n (first_open_run plan) at leads;
  door = λ plan n at s leads. open_door_leads plan s n (first_open_run plan) at leads;
}
