use Rattle.std.proofs.Common.{◌≡◌, inl, inr, ◌∙◌, ◌<◌, Some, slice_get, ap, sym, arith}
use Rattle.std.proofs.lemmas.Option.{slice_get_within}
use Rattle.dine_rules.specs.World.{enabled_events}
use Rattle.dine_trace.proofs.Choices.{below_or_at}
use Rattle.dine_trace.proofs.runs.number_of.Goals as goal

pub loop-number-preserved : goal.loop-number-preserved
loop-number-preserved c = record {
  passed = λ state n stands below is.
      elim (below_or_at n c.loop-number.number below) [
        | inl less ↦ c.loop-number.invariant.passed state n stands less is
        | inr here ↦
            let at : c.enabled.result ≡ Some c.args.event =
            c.enabled.ensures c.args.plan.now state stands ∙ ap (slice_get (enabled_events c.args.plan.now state)) (sym here) ∙ is in
            c.is_same.ensures.differs c.if-is_same.false at
      ];
}

-- an enabled event is in the list
pub unreachable-requires : goal.unreachable-requires
unreachable-requires c =
    let plan = c.args.plan.now in
    let state = c.requires.0 in
    let stands = c.requires.1 in
    let there = c.enabled_events_are_all_listed.ensures.all plan stands.reached.events state c.args.event stands.reached.is_plan stands.reached.reaches c.requires.2 in
    let within = slice_get_within (enabled_events plan state) there.0 c.args.event there.1 in
    let passed : there.0 < c.loop-number.number = omega (arith, within, c.count-number-end.ensures plan state stands, c.loop-number-test.false) in
    c.loop-number.invariant.passed state there.0 stands passed there.1
