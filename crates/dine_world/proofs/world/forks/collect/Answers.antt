use Rattle.std.proofs.Common.{sym, ◌∙◌, ap, is_some, map}
use Rattle.dine_world.specs.private.Forks.{at_rest}
use Rattle.dine_world.proofs.all_sites.ForksOut.{edge_there, next_is, one_more_as}
use Rattle.dine_world.proofs.world.forks.collect.Goals as goal

pub remove_edge_fork-requires : goal.remove_edge_fork-requires
remove_edge_fork-requires c = edge_there (map at_rest c.args.hands.now) c.args.links.now c.args.edges.now c.requires.all c.loop-edge.edge c.loop-edge.forks.items (map at_rest c.loop-edge.hands) c.loop-edge.links c.loop-edge.invariant.0
    c.loop-edge-test.true c.loop-edge.edge c.loop-edge-test.true

pub unwrap-fork-requires : goal.unwrap-fork-requires
unwrap-fork-requires c =
    ap is_some (next_is (map at_rest c.args.hands.now) c.args.links.now c.args.edges.now c.requires.all c.loop-edge.edge c.loop-edge.forks.items (map at_rest c.loop-edge.hands) c.loop-edge.links c.loop-edge.invariant.0
    c.loop-edge-test.true c.remove_edge_fork.result c.remove_edge_fork.ensures.fork)

pub loop-edge-preserved : goal.loop-edge-preserved
loop-edge-preserved c = (
  one_more_as (map at_rest c.args.hands.now) c.args.links.now c.args.edges.now c.requires.all c.loop-edge.edge c.loop-edge.forks.items (map at_rest c.loop-edge.hands) c.loop-edge.links c.loop-edge.invariant.0 c.loop-edge-test.true
      c.unwrap-fork.result c.push_reserved.new.self.items (map at_rest c.remove_edge_fork.new.hands) c.remove_edge_fork.new.links (sym c.unwrap-fork.ensures ∙ c.remove_edge_fork.ensures.fork) c.push_reserved.ensures.items c.remove_edge_fork.ensures.hands c.remove_edge_fork.ensures.links,
  c.push_reserved.ensures.capacity ∙ c.loop-edge.invariant.1,
)
