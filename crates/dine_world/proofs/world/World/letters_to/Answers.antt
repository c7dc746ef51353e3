use Rattle.std.proofs.Common.{rules}
use Rattle.dine_world.proofs.world.World.letters_to.Goals as goal

pub returns-in_err-letters : goal.returns-in_err-letters
returns-in_err-letters c = search rules

pub returns : goal.returns
returns c = search rules
