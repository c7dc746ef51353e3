use Rattle.std.proofs.Common.{rules}
use Rattle.dine_world.proofs.world.whereabouts.found_at.Goals as goal

pub returns-then-at_lower : goal.returns-then-at_lower
returns-then-at_lower c = search rules

pub returns-then-to_lower : goal.returns-then-to_lower
returns-then-to_lower c = search rules

pub returns-then-at_higher : goal.returns-then-at_higher
returns-then-at_higher c = search rules

pub returns-else-at_higher : goal.returns-else-at_higher
returns-else-at_higher c = search rules
