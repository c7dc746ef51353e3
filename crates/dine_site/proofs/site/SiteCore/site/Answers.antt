use Rattle.std.proofs.Common.{ap}
use Rattle.dine_site.specs.Core.{SeenCore}
use Rattle.dine_site.proofs.site.SiteCore.site.Goals as goal

pub returns : goal.returns
returns c = ap (λ (core : SeenCore). core.site) c.self.view_is
