use Rattle.dine_rules.proofs.shared.ends_of_runs.Complete.{complete_is_stuck}
use Rattle.dine_rules.proofs.laws.complete_worlds_are_stuck.Goals as goal

pub returns : goal.returns
returns c = complete_is_stuck
