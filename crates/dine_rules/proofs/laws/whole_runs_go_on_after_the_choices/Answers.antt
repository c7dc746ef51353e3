use Rattle.dine_rules.proofs.ends_of_runs.RunCounts.{whole_run_goes_on}
use Rattle.dine_rules.proofs.laws.whole_runs_go_on_after_the_choices.Goals as goal

pub returns : goal.returns
returns c = record { world = λ plan choices. (whole_run_goes_on plan choices).world; events = λ plan choices. (whole_run_goes_on plan choices).events }
