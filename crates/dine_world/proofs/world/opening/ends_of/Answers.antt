use Rattle.std.proofs.Common.{arith}
use Rattle.dine_world.proofs.all_sites.WorldOpened.{ends_are, ends_more}
use Rattle.dine_world.proofs.world.opening.ends_of.Goals as goal

pub loop-edge-preserved : goal.loop-edge-preserved
loop-edge-preserved c =
    let plan = c.args.plan.now in
    let edge = c.loop-edge.edge in
    let next = ends_are plan edge c.ends-lower.result c.place.result c.place-in-loop-edge.result c.ends-lower.ensures.ends c.place.ensures.place c.place-in-loop-edge.ensures.place in
    record {
      so_far = ends_more plan c.loop-edge.ends.items c.push_reserved.new.self.items edge _ c.loop-edge.invariant.so_far next c.push_reserved.ensures.items;
      count = omega (arith, c.push_reserved.ensures.len);
      room = omega (arith, c.push_reserved.ensures.capacity);
    }
