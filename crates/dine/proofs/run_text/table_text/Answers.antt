-- The rows are those of the plan, whose numbers are in range.
use Rattle.std.proofs.Common.{◌≡◌, ◌∙◌, All, sym, subst}
use Rattle.dine_threads.specs.Tables.{due_edge_rows, due_site_rows}
use Rattle.dine.specs.Run.{failing_by_site, meals_at}
use Rattle.dine.specs.Tables.{IsEdgeRowOf, IsSiteRowOf}
use Rattle.dine.proofs.RunLemmas.{due_edge_rows_named, due_site_rows_named}
use Rattle.dine.proofs.run_text.table_text.Goals as goal

pub write_edges-requires : goal.write_edges-requires
write_edges-requires c =
    let plan = c.args.plan.now in
    let rows : c.as_slice.result.now ≡ due_edge_rows plan (meals_at plan) c.requires.values = c.as_slice.ensures.value ∙ c.in_ok-rows-in-Edges.ensures ∙ c.requires.edges in
    subst (All (IsEdgeRowOf plan)) (sym rows) (due_edge_rows_named plan (meals_at plan) c.requires.values c.requires.is_plan)

pub write_sites-requires : goal.write_sites-requires
write_sites-requires c =
    let plan = c.args.plan.now in
    let rows : c.as_slice-in-Sites.result.now ≡ due_site_rows plan (meals_at plan) (failing_by_site plan) = c.as_slice-in-Sites.ensures.value ∙ c.in_ok-rows-in-Sites.ensures ∙ c.requires.sites in
    subst (All (IsSiteRowOf plan)) (sym rows) (due_site_rows_named plan (meals_at plan) (failing_by_site plan))
