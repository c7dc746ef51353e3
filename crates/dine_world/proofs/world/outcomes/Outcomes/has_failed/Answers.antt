use Rattle.std.proofs.Common.{rules}
use Rattle.dine_world.proofs.world.outcomes.Outcomes.has_failed.Goals as goal

pub returns : goal.returns
returns c = search rules
