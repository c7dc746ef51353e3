use Rattle.std.proofs.Common.{rules}
use Rattle.dine_site.proofs.site.SiteCore.neighbour.Goals as goal

pub returns : goal.returns
returns c = search rules
