use Rattle.std.proofs.Common.{map, ap, ◌∙◌}
use Rattle.toml.specs.View.{view}
use Rattle.dine_plan.specs.DraftDocument.{site_table}
use Rattle.dine_builder.specs.DraftPlan.{listed_site}
use Rattle.dine_draft.proofs.shared.ListLemmas.{each_seen_more}
use Rattle.dine_plan.proofs.texts.site_tables.Goals as goal

pub loop-site-preserved : goal.loop-site-preserved
loop-site-preserved c =
    ap (map view) c.in_ok-push.ensures.items
    ∙ each_seen_more view site_table listed_site c.loop-site.tables.items c.in_ok-site_table.field-0 c.args.sites.now c.loop-site.site-index c.site-item.result c.loop-site-test.true c.site-item.is c.loop-site.invariant c.in_ok-site_table.ensures
