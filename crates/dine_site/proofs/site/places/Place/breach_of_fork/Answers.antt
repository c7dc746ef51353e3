use Rattle.std.proofs.Common.{rules}
use Rattle.dine_site.proofs.site.places.Place.breach_of_fork.Goals as goal

pub returns-then-is_held-clause-breach : goal.returns-then-is_held-clause-breach
returns-then-is_held-clause-breach c = search rules

pub returns-then-not-is_own_fork-clause-breach : goal.returns-then-not-is_own_fork-clause-breach
returns-then-not-is_own_fork-clause-breach c = search rules
