use Rattle.std.proofs.Common.{rules}
use Rattle.dine_link.proofs.link_end.LinkEnd.taken.Goals as goal

pub returns-clause-taken : goal.returns-clause-taken
returns-clause-taken c = search rules
