use Rattle.std.proofs.Common.{find, refl, sym, ◌∙◌}
use Rattle.std.proofs.lemmas.List.{at_drop_all}
use Rattle.std.proofs.lemmas.List.Folds.{list_any_at}
use Rattle.dine_states.specs.declared.why.Reason.TheVariants.{NoEvent}
use Rattle.dine_states.specs.private.ReasonsAtEnds.{holds_at, is_of_place}
use Rattle.dine_states.proofs.FirstReasons.{here, later}
use Rattle.dine_states.proofs.why.first_that_holds.Goals as goal

pub loop-reason-init : goal.loop-reason-init
loop-reason-init c state is = refl

pub holds-requires-clause-place : goal.holds-requires-clause-place
holds-requires-clause-place c reads = c.requires.place (list_any_at is_of_place c.args.reasons.now c.loop-reason.reason-index NoEvent c.loop-reason-test.true reads)

pub loop-reason-preserved : goal.loop-reason-preserved
loop-reason-preserved c state is =
    c.loop-reason.invariant state is
    ∙ later (holds_at c.args.plan.now state c.args.end.site c.args.end.place) c.args.reasons.now c.loop-reason.reason-index c.loop-reason-test.true (sym (c.holds.ensures state is) ∙ c.if-holds.false)

pub returns-then-holds : goal.returns-then-holds
returns-then-holds c state is =
    sym (c.loop-reason.invariant state is
    ∙ here (holds_at c.args.plan.now state c.args.end.site c.args.end.place) c.args.reasons.now c.loop-reason.reason-index c.loop-reason-test.true (sym (c.holds.ensures state is) ∙ c.if-holds.true))

pub returns : goal.returns
returns c state is =
    sym (c.loop-reason.invariant state is ∙ at_drop_all (find (holds_at c.args.plan.now state c.args.end.site c.args.end.place)) c.args.reasons.now c.loop-reason.reason-index c.loop-reason-test.false)
