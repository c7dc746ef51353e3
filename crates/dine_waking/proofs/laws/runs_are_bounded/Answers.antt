use Rattle.dine_waking.proofs.Bounded.{steps_bounded}
use Rattle.dine_waking.proofs.laws.runs_are_bounded.Goals as goal

pub returns : goal.returns
returns c plan n run is_plan = steps_bounded plan is_plan n run
