use Rattle.std.proofs.Common.{rules}
use Rattle.dine_site.proofs.site.places.Place.may_ask.Goals as goal

pub returns-then-not-is_held : goal.returns-then-not-is_held
returns-then-not-is_held c = search rules

pub returns-else-not-is_held : goal.returns-else-not-is_held
returns-else-not-is_held c = search rules
