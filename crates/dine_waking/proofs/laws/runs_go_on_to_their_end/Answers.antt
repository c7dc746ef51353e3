use Rattle.std.proofs.Common.{false}
use Rattle.dine_waking.proofs.Bounded.{reached_keeps, reached_open, stuck_has_ended}
use Rattle.dine_waking.proofs.GoingOn.{ended_is_stuck}
use Rattle.dine_waking.proofs.Progress.{step_or_end}
use Rattle.dine_waking.proofs.laws.runs_go_on_to_their_end.Goals as goal

pub returns : goal.returns
returns c = record {
  step_or_end = λ plan n run is_plan leads. step_or_end plan is_plan run (reached_keeps plan is_plan false n run leads) (reached_open plan is_plan false n run leads);
  stuck = λ plan n run is_plan leads. stuck_has_ended plan is_plan n run leads;
  ended = λ plan n run is_plan leads. ended_is_stuck plan is_plan run (reached_keeps plan is_plan false n run leads);
}
