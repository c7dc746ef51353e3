use Rattle.std.proofs.Common.{refl, ◌∙◌}
use Rattle.dine_draft.specs.Draft.{value_of_edge}
use Rattle.dine_draft.proofs.shared.ListLemmas.{each_plain_more}
use Rattle.dine_draft.proofs.drafts.values_of.Goals as goal

pub loop-edge-preserved : goal.loop-edge-preserved
loop-edge-preserved c =
    c.in_ok-push.ensures.items ∙ each_plain_more value_of_edge c.loop-edge.values.items _ c.args.edges.now c.loop-edge.edge-index _ c.loop-edge-test.true c.loop-edge.invariant refl
