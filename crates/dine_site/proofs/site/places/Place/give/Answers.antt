use Rattle.std.proofs.Common.{rules}
use Rattle.dine_site.proofs.site.places.Place.give.Goals as goal

pub returns-clause-letter : goal.returns-clause-letter
returns-clause-letter c = search rules

pub returns-clause-away : goal.returns-clause-away
returns-clause-away c = search rules
