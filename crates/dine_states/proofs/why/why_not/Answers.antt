use Rattle.std.proofs.Common.{ℕ, ◌<◌, is_some, Option, sym, ◌∙◌, ap, subst}
use Rattle.std.specs.List.{list_any}
use Rattle.dine_graph.specs.Plan.{site_count}
use Rattle.dine_states.specs.declared.why.Reason.{Reason}
use Rattle.dine_states.specs.private.ReasonsAtEnds.{is_of_place}
use Rattle.dine_states.proofs.FirstReasons.{first_is, none_there}
use Rattle.dine_states.proofs.Reasons.{known_of, why_not_is}
use Rattle.dine_states.proofs.why.why_not.Goals as goal

pub first_that_holds-requires-clause-site : goal.first_that_holds-requires-clause-site
first_that_holds-requires-clause-site c = subst (λ (s : ℕ). s < site_count c.args.plan.now) (sym c.in-Some.ensures.site) c.in-Some.ensures.within

pub first_that_holds-requires-clause-place : goal.first_that_holds-requires-clause-place
first_that_holds-requires-clause-place c reads = c.in-Some.ensures.is_end (sym (ap (list_any is_of_place) c.reasons_of.ensures) ∙ reads)

pub returns-in-Some-clause-first : goal.returns-in-Some-clause-first
returns-in-Some-clause-first c state is =
    c.first_that_holds.ensures state is ∙ first_is c.args.plan.now state c.args.event c.in-Some.end c.reasons_of.result.now c.reasons_of.ensures c.in-Some.ensures

pub returns-in-Some-clause-enabled : goal.returns-in-Some-clause-enabled
returns-in-Some-clause-enabled c state is =
    ap (λ (o : Option Reason). is_some o) (c.first_that_holds.ensures state is ∙ first_is c.args.plan.now state c.args.event c.in-Some.end c.reasons_of.result.now c.reasons_of.ensures c.in-Some.ensures)
    ∙ why_not_is c.args.plan.now state c.args.event (known_of c.args.plan.now state is.reached)

pub returns-in-None-clause-first : goal.returns-in-None-clause-first
returns-in-None-clause-first c state is = none_there c.args.plan.now state c.args.event c.in-None.ensures

pub returns-in-None-clause-enabled : goal.returns-in-None-clause-enabled
returns-in-None-clause-enabled c state is =
    ap (λ (o : Option Reason). is_some o) (none_there c.args.plan.now state c.args.event c.in-None.ensures)
    ∙ why_not_is c.args.plan.now state c.args.event (known_of c.args.plan.now state is.reached)
