use Rattle.std.proofs.Common.{ℕ, List, length, replicate, sym, ◌∙◌, ap, subst, arith, map}
use Rattle.std.proofs.lemmas.List.{length-map, length_push}
use Rattle.dine_rules.specs.declared.events.Event.{Event}
use Rattle.dine_rules.specs.Shown.{plan_shown}
use Rattle.dine_order.specs.private.Searching.{IsSearching}
use Rattle.dine_order.proofs.Placing.{fewer_left, starts_as}
use Rattle.dine_order.proofs.shared.Shown.{sites_shown}
use Rattle.dine_order.proofs.orders.placing.place_all.Goals as goal

pub loop-event-init : goal.loop-event-init
loop-event-init g c =
    let lists = map g.J.AsSlice.items c.args.journals.now in
    let sites = sites_shown c.args.plan.now lists in
    starts_as (plan_shown c.args.plan.now lists) lists c.new-placed.result.items c.args.counts.now c.full-untried.result c.args.world.now c.requires.world (length-map c.args.journals.now _ ∙ c.requires.journals ∙ sym sites)
    c.new-placed.ensures.items (c.requires.counts ∙ ap (λ (n : ℕ). replicate n 0) (sym sites)) c.full-untried.ensures

pub note-requires : goal.note-requires
note-requires g c = (map g.J.AsSlice.items c.args.journals.now, c.loop-event.placed.items, c.place_next.new.world, c.in-Some.ensures (plan_shown c.args.plan.now (map g.J.AsSlice.items c.args.journals.now)) c.loop-event.placed.items c.loop-event.invariant)

pub loop-event-smaller : goal.loop-event-smaller
loop-event-smaller g c =
    let lists = map g.J.AsSlice.items c.args.journals.now in
    let plan = plan_shown c.args.plan.now lists in
    let placed = c.loop-event.placed.items in
    let next = c.note.ensures lists placed c.place_next.new.world (c.in-Some.ensures plan placed c.loop-event.invariant) in
    let few = fewer_left c.events_are_bounded.ensures.events plan lists _ c.note.new.counts c.note.new.untried c.place_next.new.world next in
    let more = length_push placed c.in-Some.event in
    let items = ap length c.in_ok-push.ensures.items in
    omega (arith, few, more, items)

pub loop-event-preserved : goal.loop-event-preserved
loop-event-preserved g c =
    let lists = map g.J.AsSlice.items c.args.journals.now in
    let plan = plan_shown c.args.plan.now lists in
    let placed = c.loop-event.placed.items in
    let next = c.note.ensures lists placed c.place_next.new.world (c.in-Some.ensures plan placed c.loop-event.invariant) in
    subst (λ (events : List Event). IsSearching plan lists events c.note.new.counts c.note.new.untried c.place_next.new.world) (sym c.in_ok-push.ensures.items) next
