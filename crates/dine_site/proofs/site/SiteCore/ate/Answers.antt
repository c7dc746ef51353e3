use Rattle.std.proofs.Common.{ap}
use Rattle.dine_site.specs.Core.{SeenCore}
use Rattle.dine_site.proofs.site.SiteCore.ate.Goals as goal

pub returns : goal.returns
returns c = ap (λ (core : SeenCore). core.ate) c.self.view_is
