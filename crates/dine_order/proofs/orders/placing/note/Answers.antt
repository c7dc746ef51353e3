use Rattle.std.proofs.Common.{◌+◌, List, ◌++◌, ◌∷◌, [], sym, ◌∙◌, subst, slice_set, slice_index_or, arith}
use Rattle.dine_rules.specs.Shown.{plan_shown}
use Rattle.dine_order.specs.private.Searching.{IsSearching}
use Rattle.dine_order.proofs.Outcomes.{none_from}
use Rattle.dine_order.proofs.Placing.{few_placed, is_site, place_within, search_with, search_without}
use Rattle.dine_order.proofs.shared.Shown.{receiver_shown}
use Rattle.dine_order.proofs.orders.placing.note.Goals as goal

pub overflow_add-counts : goal.overflow_add-counts
overflow_add-counts c =
    let plan = plan_shown c.args.plan.now c.requires.0 in
    let found = c.requires.3 in
    let grows = c.orders_grow_by_each_event.ensures in
    let few = few_placed grows plan c.requires.0 c.requires.1 c.args.counts.now c.args.untried.now c.args.event c.requires.2 found c.events_are_bounded.ensures.events in
    let counted = found.counted c.args.event.site (is_site grows plan c.requires.0 c.requires.1 c.args.counts.now c.args.untried.now c.args.event c.requires.2 found) in
    omega (arith, few, counted, c.whole_runs_are_bounded.ensures.small plan found.stands.reached.is_plan)

pub receiver-requires-clause-place : goal.receiver-requires-clause-place
receiver-requires-clause-place c = place_within c.orders_grow_by_each_event.ensures (plan_shown c.args.plan.now c.requires.0) c.requires.0 c.requires.1 c.args.counts.now c.args.untried.now c.args.event c.requires.2 c.requires.3

pub returns-in-Some : goal.returns-in-Some
returns-in-Some c lists placed seen found =
    subst (λ (set : List _). IsSearching (plan_shown c.args.plan.now lists) lists (placed ++ c.args.event ∷ []) (slice_set c.args.counts.now c.args.event.site (slice_index_or c.args.counts.now c.args.event.site 0 + 1)) set seen) (sym c.insert.ensures)
    (search_with c.orders_grow_by_each_event.ensures (plan_shown c.args.plan.now lists) lists placed c.args.counts.now c.args.untried.now c.args.event seen found c.disabled_events_wait_for_a_letter.ensures c.in-Some.site c.in-Some.ensures.within (c.in-Some.ensures.site ∙ receiver_shown c.args.plan.now lists c.args.event))

pub returns-in_default : goal.returns-in_default
returns-in_default c lists placed seen found =
    search_without c.orders_grow_by_each_event.ensures (plan_shown c.args.plan.now lists) lists placed c.args.counts.now c.args.untried.now c.args.event seen found c.disabled_events_wait_for_a_letter.ensures
    (sym (none_from c.receiver.result c.in_default.not-Some) ∙ c.receiver.ensures.site ∙ receiver_shown c.args.plan.now lists c.args.event)
