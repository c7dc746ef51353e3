use Rattle.std.proofs.Common.{false}
use Rattle.dine_waking.proofs.Bounded.{reached_keeps, reached_open}
use Rattle.dine_waking.proofs.InManner.{manner_or_end}
use Rattle.dine_waking.proofs.Polite.{manner_leads}
use Rattle.dine_waking.proofs.laws.manners.runs_in_manners_go_on_to_their_end.Goals as goal

pub returns : goal.returns
returns c = record {
  step_or_end = λ plan is_polite checked n run is_plan leads. manner_or_end plan is_plan is_polite checked run (reached_keeps plan is_plan false n run leads) (reached_open plan is_plan false n run leads);
  are_runs = manner_leads;
}
