use Rattle.std.proofs.Common.{rules, ◌∙◌, ap}
use Rattle.dine_site.specs.declared.site.places.Place.{Place}
use Rattle.dine_site.specs.Core.{SeenCore}
use Rattle.dine_site.specs.Places.{place_at}
use Rattle.dine_site.proofs.site.SiteCore.has_taken_close.Goals as goal

pub returns-clause-close : goal.returns-clause-close
returns-clause-close c = ap (λ (place : Place). place.close_taken) c.at.ensures ∙ ap (λ (core : SeenCore). (place_at core c.args.i).close_taken) c.self.view_is

pub returns-clause-by_lists : goal.returns-clause-by_lists
returns-clause-by_lists c = search rules
