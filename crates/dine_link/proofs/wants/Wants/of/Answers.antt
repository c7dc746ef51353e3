use Rattle.std.proofs.Common.{rules}
use Rattle.dine_link.proofs.wants.Wants.of.Goals as goal

pub returns : goal.returns
returns c = search rules
