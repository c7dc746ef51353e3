use Rattle.dine_rules.proofs.shared.counting.Persistence.{stays_enabled}
use Rattle.dine_rules.proofs.laws.enabled_events_stay_enabled.Goals as goal

pub returns : goal.returns
returns c = stays_enabled
