use Rattle.std.proofs.Common.{rules}
use Rattle.dine_world.proofs.world.acts.end.Goals as goal

pub returns-clause-core : goal.returns-clause-core
returns-clause-core c = search rules

pub returns-clause-step : goal.returns-clause-step
returns-clause-step c = search rules
