use Rattle.std.proofs.Common.{rules}
use Rattle.dine_link.proofs.link_end.LinkEnd.put.Goals as goal

pub returns-clause-put : goal.returns-clause-put
returns-clause-put c = search rules
