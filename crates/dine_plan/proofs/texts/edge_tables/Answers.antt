use Rattle.std.proofs.Common.{map, ap, ◌∙◌}
use Rattle.toml.specs.View.{view}
use Rattle.dine_draft.specs.Draft.{names_of}
use Rattle.dine_plan.specs.DraftDocument.{edge_table}
use Rattle.dine_builder.specs.DraftPlan.{listed_site}
use Rattle.dine_draft.proofs.shared.ListLemmas.{each_more}
use Rattle.dine_plan.proofs.texts.edge_tables.Goals as goal

pub loop-edge-preserved : goal.loop-edge-preserved
loop-edge-preserved c =
    ap (map view) c.in_ok-push.ensures.items
    ∙ each_more view (edge_table (names_of (map listed_site c.args.sites.now))) c.loop-edge.tables.items c.in_ok-edge_table.field-0 c.args.edges.now c.loop-edge.edge-index _ c.loop-edge-test.true c.loop-edge.invariant c.in_ok-edge_table.ensures
