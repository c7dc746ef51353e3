use Rattle.std.proofs.Common.{◌≡◌, arith}
use Rattle.dine_graph.specs.Plan.{job_count, lo_of, hi_of}
use Rattle.dine_world.proofs.all_sites.WorldOpened.{letters_more, few_letters}
use Rattle.dine_world.proofs.world.opening.letters_of_edges.Goals as goal

pub loop-edge-preserved : goal.loop-edge-preserved
loop-edge-preserved c =
    let low : c.from.result ≡ job_count c.args.plan.now (lo_of c.args.plan.now c.loop-edge.edge) = cc in
    let high : c.from-in-loop-edge.result ≡ job_count c.args.plan.now (hi_of c.args.plan.now c.loop-edge.edge) = cc in
    record {
      so_far = letters_more c.args.plan.now c.loop-edge.edge c.loop-edge.total c.from.result c.from-in-loop-edge.result c.loop-edge.invariant.so_far low high;
      few = omega (arith, few_letters c.args.plan.now c.loop-edge.edge c.from.result c.from-in-loop-edge.result c.ends-lower.ensures.plan (omega arith) low high);
    }
