use Rattle.std.proofs.Common.{rules}
use Rattle.dine_link.proofs.link_end.LinkEnd.and_refused.Goals as goal

pub returns : goal.returns
returns c = search rules
