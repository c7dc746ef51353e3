use Rattle.std.proofs.Common.{rules}
use Rattle.dine_world.proofs.world.World.bound.Goals as goal

pub returns-clause-bound : goal.returns-clause-bound
returns-clause-bound c = search rules

pub returns-clause-opened : goal.returns-clause-opened
returns-clause-opened c = search rules
