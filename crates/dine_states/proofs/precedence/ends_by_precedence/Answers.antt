use Rattle.std.proofs.Common.{◌<◌, sym, ◌∙◌, ap, arith}
use Rattle.dine_graph.specs.Plan.{edge_count}
use Rattle.dine_states.proofs.Forks.{end_told, ends_more}
use Rattle.dine_states.proofs.precedence.ends_by_precedence.Goals.{in-Some+in_ok-push, in_default}
use Rattle.dine_states.proofs.precedence.ends_by_precedence.Goals as goal

pub loop-edge-preserved : goal.loop-edge-preserved
loop-edge-preserved c state is =
    let plan = c.args.plan.now in
    let e = c.loop-edge.edge in
    let within : e < edge_count plan = omega (arith, c.loop-edge-test.true, c.edges-edge-end.ensures.count) in
    elim c.match-preferred_end.branch [
      | in-Some+in_ok-push w ↦
          ends_more plan state e w.in-Some.preferred w.other_end.result c.loop-edge.ends.items c.match-preferred_end.ends.items within (w.in-Some.ensures plan state is) w.other_end.ensures (c.loop-edge.invariant state is)
          (ap (λ (v : _). v.items) w.ends-is ∙ w.in_ok-push.ensures.items)
      | in_default w ↦ absurd (w.in_default.not-Some _ (c.preferred_end.ensures plan state is ∙ sym (end_told plan state e within)))
    ]
