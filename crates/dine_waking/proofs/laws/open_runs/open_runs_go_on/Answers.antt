use Rattle.dine_waking.proofs.OpenProgress.{step_or_rest}
use Rattle.dine_waking.proofs.OpenRuns.{open_keeps}
use Rattle.dine_waking.proofs.laws.open_runs.open_runs_go_on.Goals as goal

pub returns : goal.returns
returns c = record { due_or_rest = λ plan n at is_plan leads. step_or_rest plan is_plan at (open_keeps plan is_plan n at leads) }
