use Rattle.dine_rules.proofs.shared.counting.EffectBounds.{effects_bounded, events_bounded}
use Rattle.dine_rules.proofs.laws.events_are_bounded.Goals as goal

pub returns : goal.returns
returns c = record { effects = effects_bounded; events = events_bounded }
