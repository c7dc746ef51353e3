use Rattle.dine_waking.proofs.OpenBounds.{due_bounded}
use Rattle.dine_waking.proofs.laws.open_runs.open_runs_are_bounded.Goals as goal

pub returns : goal.returns
returns c plan n at leads is_plan = due_bounded plan is_plan n at leads
