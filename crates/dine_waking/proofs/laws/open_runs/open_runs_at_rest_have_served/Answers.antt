use Rattle.dine_waking.proofs.OpenProgress.{rest_ends, rest_not_called, rest_thinks}
use Rattle.dine_waking.proofs.OpenRuns.{open_keeps}
use Rattle.dine_waking.proofs.laws.open_runs.open_runs_at_rest_have_served.Goals as goal

pub returns : goal.returns
returns c = record {
  thinks = λ plan n at s is_plan leads rest is_site. rest_thinks plan is_plan at (open_keeps plan is_plan n at leads) rest s is_site;
  not_called = λ plan n at s is_plan leads rest is_site hungry. rest_not_called plan is_plan at (open_keeps plan is_plan n at leads) rest n leads s is_site hungry;
  ended = λ plan n at is_plan leads rest closed. rest_ends plan is_plan at (open_keeps plan is_plan n at leads) rest n leads closed;
}
