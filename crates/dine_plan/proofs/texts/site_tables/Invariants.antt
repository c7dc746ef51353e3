use Rattle.std.proofs.Common.{◌≡◌, map, take}
use Rattle.toml.specs.View.{view}
use Rattle.dine_plan.specs.DraftDocument.{site_table}
use Rattle.dine_builder.specs.DraftPlan.{listed_site}
use Rattle.dine_plan.proofs.texts.site_tables.Given as goal

abbrev pub invariant-loop-site : goal.invariant-loop-site
invariant-loop-site l = map view l.tables.items ≡ map site_table (map listed_site (take l.site-index l.sites))
