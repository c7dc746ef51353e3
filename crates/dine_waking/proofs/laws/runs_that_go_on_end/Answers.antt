use Rattle.dine_waking.proofs.GoingOn.{going_on_ends, some_go_on}
use Rattle.dine_waking.proofs.laws.runs_that_go_on_end.Goals as goal

pub returns : goal.returns
returns c = record {
  ends = λ plan moments is_plan on. going_on_ends plan is_plan moments on;
  exists = some_go_on;
}
