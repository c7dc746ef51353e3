use Rattle.std.proofs.Common.{rules}
use Rattle.dine_site.proofs.site.SiteCore.link_to.Goals as goal

pub returns : goal.returns
returns c = search rules
