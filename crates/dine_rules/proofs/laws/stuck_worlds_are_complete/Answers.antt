use Rattle.dine_rules.proofs.shared.ends_of_runs.Finishing.{stuck_is_complete}
use Rattle.dine_rules.proofs.laws.stuck_worlds_are_complete.Goals as goal

pub returns : goal.returns
returns c = stuck_is_complete
