use Rattle.dine_rules.proofs.ends_of_runs.RunCounts.{bound_is_small, whole_run_bounded, whole_run_counted}
use Rattle.dine_rules.proofs.laws.whole_runs_are_bounded.Goals as goal

pub returns : goal.returns
returns c = record { counted = whole_run_counted; bounded = whole_run_bounded; small = bound_is_small }
