-- How a site with its meal is kept.
use Rattle.std.specs.Prelude.{◌≡◌, false, true, MatchOption}
use Rattle.dine_rules.specs.Local.{is_eating}
use Rattle.dine_site.specs.Places.{IsMealOf}
use Rattle.dine_ffi.specs.OwnSites.{SeenOwnSite}
use Rattle.dine_ffi.specs.declared.own_site.OwnSite.TheInside.{Inside}

-- the site that the fields represent
abbrev pub seen_own_site : Inside → SeenOwnSite
seen_own_site site = record { plan = site.plan; run = site.run; core = site.core; meal = site.meal; shelf = site.shelf.items }

-- if the core eats, the meal is its meal; else there is none
abbrev pub HasOwnMeal : Inside → Type 0
HasOwnMeal site = MatchOption site.meal (is_eating site.core.phase ≡ false) (λ meal. (is_eating site.core.phase ≡ true) × IsMealOf site.core meal)
