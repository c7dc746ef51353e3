use Rattle.std.proofs.Common.{◌∙◌, ap}
use Rattle.dine_site.specs.Core.{SeenCore}
use Rattle.dine_site.specs.Places.{place_at}
use Rattle.dine_site.specs.DoneAndClose.{said_at}
use Rattle.dine_site.proofs.site.SiteCore.said.Goals as goal

pub returns : goal.returns
returns c = ap said_at c.at-place.ensures ∙ ap (λ (core : SeenCore). said_at (place_at core c.args.i)) c.self.view_is
