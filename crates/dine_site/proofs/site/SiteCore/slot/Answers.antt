use Rattle.std.proofs.Common.{◌∙◌, ap}
use Rattle.dine_site.specs.declared.site.places.Place.{Place}
use Rattle.dine_site.specs.Core.{SeenCore}
use Rattle.dine_site.specs.Places.{place_at}
use Rattle.dine_site.proofs.site.SiteCore.slot.Goals as goal

pub returns : goal.returns
returns c = ap (λ (place : Place). place.fork) c.at.ensures ∙ ap (λ (core : SeenCore). (place_at core c.args.i).fork) c.self.view_is
