-- One value more, with the edge whose number comes next.
use Rattle.std.proofs.Common.{◌≡◌, length, refl, arith, vec_items}
use Rattle.std.specs.Vec.Iter.{into_iter_items}
use Rattle.dine_threads.proofs.shared.lists.Zips.{mapped_split}
use Rattle.dine_threads.proofs.shared.all_sites.Collected.{each_more}
use Rattle.dine_jobs.specs.declared.edge_value.EdgeValue.{EdgeValue}
use Rattle.dine_jobs.proofs.edge_value.EdgeValue.number.Goals as goal

pub loop-edge-preserved : goal.loop-edge-preserved
loop-edge-preserved g c =
    let was = c.loop-edge.invariant in
    let old = vec_items c.loop-edge.numbered in
    let new = vec_items c.push_reserved.new.self in
    let grown = c.push_reserved.ensures.items in
    let next = rw c.unwrap-value.ensures at c.next.ensures.cases in
    let number : c.loop-edge.edge ≡ length old = omega (arith, was.number, c.loop-edge.numbered.ok.0) in
    record {
      number = omega (arith, was.number, c.push_reserved.ensures.len);
      room = omega (arith, was.room, c.push_reserved.ensures.capacity);
      values = mapped_split (λ (it : EdgeValue g.row.T.Denot). it.value) old new _ c.unwrap-value.result (into_iter_items c.loop-edge.waiting) (into_iter_items c.next.new.self) (vec_items c.args.values) grown next.0 refl was.values;
      edges = each_more (λ e (it : EdgeValue g.row.T.Denot). it.edge ≡ e) old new _ grown was.edges number;
    }
