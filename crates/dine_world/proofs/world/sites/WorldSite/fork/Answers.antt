use Rattle.std.proofs.Common.{rules}
use Rattle.dine_world.proofs.world.sites.WorldSite.fork.Goals as goal

pub returns-in-Some : goal.returns-in-Some
returns-in-Some c = search rules
