use Rattle.std.proofs.Common.{rules}
use Rattle.dine_site.proofs.site.hands.Hands.remove_fork.Goals as goal

pub returns-clause-fork : goal.returns-clause-fork
returns-clause-fork c = search rules
