use Rattle.std.proofs.Common.{◌∙◌}
use Rattle.dine_world.proofs.all_sites.CanHappen.{can_happen_is}
use Rattle.dine_world.proofs.world.World.is_enabled.Goals as goal

pub returns : goal.returns
returns c plan world stands = c.can_happen.ensures ∙ can_happen_is plan world c.args.self.now stands c.args.event
