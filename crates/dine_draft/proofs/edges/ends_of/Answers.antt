use Rattle.std.proofs.Common.{◌∙◌}
use Rattle.dine_draft.specs.Draft.{ends_of_edge}
use Rattle.dine_draft.proofs.shared.ListLemmas.{each_plain_more}
use Rattle.dine_draft.proofs.edges.ends_of.Goals as goal

pub loop-edge-preserved : goal.loop-edge-preserved
loop-edge-preserved c =
    c.in_ok-push.ensures.items ∙ each_plain_more ends_of_edge c.loop-edge.ends.items _ c.args.edges.now c.loop-edge.edge-index _ c.loop-edge-test.true c.loop-edge.invariant c.ends_of_edge.ensures
