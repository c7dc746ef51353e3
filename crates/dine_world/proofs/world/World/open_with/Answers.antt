use Rattle.std.proofs.Common.{rules}
use Rattle.dine_world.proofs.world.World.open_with.Goals as goal

pub returns : goal.returns
returns c = search rules
