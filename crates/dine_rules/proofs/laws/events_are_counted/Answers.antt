use Rattle.dine_rules.proofs.shared.counting.Effects.{events_counted}
use Rattle.dine_rules.proofs.laws.events_are_counted.Goals as goal

pub returns : goal.returns
returns c = events_counted
