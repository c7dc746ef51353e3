use Rattle.std.proofs.Common.{ℕ, Some, None, ◌∙◌, ap, sym, subst, map}
use Rattle.std.proofs.lemmas.List.{length-map}
use Rattle.dine_world.specs.Worlds.{AreOutcomesFor, lists_of}
use Rattle.dine_rules.specs.Shown.{plan_shown}
use Rattle.dine_order.specs.Orders.{OrderFaultIs}
use Rattle.dine_order.specs.private.Searching.{FirstLeft}
use Rattle.dine_order.proofs.Answering.{memory_told, not_closed, stuck_at, whole_order}
use Rattle.dine_order.proofs.shared.Shown.{are_outcomes, counted_too, sites_shown}
use Rattle.dine_order.proofs.orders.search.Goals as goal

pub returns-in-Some-clause-fault : goal.returns-in-Some-clause-fault
returns-in-Some-clause-fault g c =
    let lists = map g.J.AsSlice.items c.args.journals.now in
    let plan = plan_shown c.args.plan.now lists in
    let sites = sites_shown c.args.plan.now lists in
    let one_each = length-map c.args.journals.now _ ∙ c.requires.journals ∙ sym sites in
    let stuck = stuck_at plan lists c.in_ok-events.events.items c.place_all-placed.new.counts c.place_all-placed.new.world c.in_ok-events.ensures one_each c.orders_that_exist_are_found.ensures.all_placed c.in-Some.site (subst (λ (n : ℕ). FirstLeft n lists c.place_all-placed.new.counts (Some c.in-Some.site)) (sym sites) c.in-Some.ensures) in
    (one_each, stuck.0, stuck.1)

pub returns-then-not-is_closed-clause-fault : goal.returns-then-not-is_closed-clause-fault
returns-then-not-is_closed-clause-fault g c =
    let lists = map g.J.AsSlice.items c.args.journals.now in
    let plan = plan_shown c.args.plan.now lists in
    let sites = sites_shown c.args.plan.now lists in
    let one_each = length-map c.args.journals.now _ ∙ c.requires.journals ∙ sym sites in
    let done = c.in_ok-events.ensures in
    let open_end = not_closed plan lists c.in_ok-events.events.items c.place_all-placed.new.counts c.place_all-placed.new.world done one_each c.orders_that_exist_are_found.ensures.complete c.complete_worlds_are_stuck.ensures (subst (λ (n : ℕ). FirstLeft n lists c.place_all-placed.new.counts None) (sym sites) c.in_default.ensures)
    (λ none. c.if-not-is_closed.true (c.count-is_closed.ensures plan done.state done.stands ∙ none)) in
    (one_each, open_end.0, open_end.1)

pub returns-clause-order : goal.returns-clause-order
returns-clause-order g c =
    let lists = map g.J.AsSlice.items c.args.journals.now in
    let plan = plan_shown c.args.plan.now lists in
    let sites = sites_shown c.args.plan.now lists in
    let done = c.in_ok-events.ensures in
    whole_order plan lists c.in_ok-events.events.items c.place_all-placed.new.counts c.place_all-placed.new.world done (length-map c.args.journals.now _ ∙ c.requires.journals ∙ sym sites) c.stuck_worlds_are_complete.ensures
    (subst (λ (n : ℕ). FirstLeft n lists c.place_all-placed.new.counts None) (sym sites) c.in_default.ensures)
    (sym (c.count-is_closed.ensures plan done.state done.stands) ∙ c.if-not-is_closed.false)

pub open_with-requires : goal.open_with-requires
open_with-requires g c =
    subst (AreOutcomesFor c.args.plan.now) (sym (ap lists_of c.as_slice.ensures.value ∙ c.in_ok-fails.ensures)) (are_outcomes c.args.plan.now (map g.J.AsSlice.items c.args.journals.now))

pub returns-in_err-fails-clause-fault : goal.returns-in_err-fails-clause-fault
returns-in_err-fails-clause-fault g c =
    let lists = map g.J.AsSlice.items c.args.journals.now in
    memory_told c.from_residual.result c.from_residual.ensures.1 (OrderFaultIs (plan_shown c.args.plan.now lists) lists) (counted_too c.args.plan.now g.J.AsSlice.items c.args.journals.now c.requires.journals)

pub returns-in_err-world-clause-fault : goal.returns-in_err-world-clause-fault
returns-in_err-world-clause-fault g c =
    let lists = map g.J.AsSlice.items c.args.journals.now in
    memory_told c.from_residual-in_err-world.result c.from_residual-in_err-world.ensures.1 (OrderFaultIs (plan_shown c.args.plan.now lists) lists) (counted_too c.args.plan.now g.J.AsSlice.items c.args.journals.now c.requires.journals)

pub returns-in_err-events-clause-fault : goal.returns-in_err-events-clause-fault
returns-in_err-events-clause-fault g c =
    let lists = map g.J.AsSlice.items c.args.journals.now in
    memory_told c.from_residual-in_err-events.result c.from_residual-in_err-events.ensures.1 (OrderFaultIs (plan_shown c.args.plan.now lists) lists) (counted_too c.args.plan.now g.J.AsSlice.items c.args.journals.now c.requires.journals)
