use Rattle.std.proofs.Common.{◌∙◌}
use Rattle.toml.specs.View.{view}
use Rattle.dine_reader.specs.PlanOf.{edge_in}
use Rattle.dine_draft.proofs.shared.ListLemmas.{each_kept_more}
use Rattle.dine_reader.proofs.ReadLemmas.{names_in, length-names_in}
use Rattle.dine_reader.proofs.drafts.edges_in.Goals as goal

pub loop-table-preserved : goal.loop-table-preserved
loop-table-preserved c =
    let names = names_in c.args.sites.now in
    c.in_ok-push.ensures.items
    ∙ each_kept_more (edge_in names) view c.loop-table.edges.items c.edge_in.result c.args.tables.now c.loop-table.table-index c.table-item.result c.loop-table-test.true c.table-item.is c.loop-table.invariant
    (c.edge_in.ensures names c.in_ok-index.ensures (length-names_in c.args.sites.now))
