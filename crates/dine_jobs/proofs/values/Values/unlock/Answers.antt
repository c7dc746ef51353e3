-- One value more, which has the number of its edge.
use Rattle.std.proofs.Common.{◌≡◌, length, sym, ◌∙◌, arith, vec_items}
use Rattle.std.proofs.lemmas.Bool.{eqb-true}
use Rattle.dine_threads.proofs.shared.all_sites.Collected.{each_more}
use Rattle.dine_jobs.specs.declared.edge_value.EdgeValue.{EdgeValue}
use Rattle.dine_jobs.proofs.values.Values.unlock.Goals as goal

pub loop-cell-preserved : goal.loop-cell-preserved
loop-cell-preserved g c =
    let was = c.loop-cell.invariant in
    let old = vec_items c.loop-cell.numbered in
    let new = vec_items c.push_reserved.new.self in
    let same = eqb-true c.into_inner-value.result.edge c.len.result (sym c.is_of.ensures ∙ c.if-not-is_of.false) in
    let here : c.into_inner-value.result.edge ≡ length old = omega (arith, same, c.len.ensures, c.loop-cell.numbered.ok.0) in
    record {
      count = omega (arith, was.count, c.push_reserved.ensures.len, c.in-Some.ensures.steps.1);
      room = omega (arith, was.room, c.push_reserved.ensures.capacity);
      edges = each_more (λ e (it : EdgeValue g.row.T.Denot). it.edge ≡ e) old new _ c.push_reserved.ensures.items was.edges here;
    }
