use Rattle.dine_rules.proofs.shared.one_site.Shapes.{event_moved, event_within}
use Rattle.dine_rules.proofs.laws.events_move_letters_by_their_shape.Goals as goal

pub returns : goal.returns
returns c = record { moves = event_moved; place = event_within }
