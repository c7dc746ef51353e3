use Rattle.std.proofs.Common.{rules}
use Rattle.dine_link.proofs.wants.Awaited.has.Goals as goal

pub returns-in-Fork : goal.returns-in-Fork
returns-in-Fork c = search rules
