use Rattle.std.proofs.Common.{◌≢◌, List, map, refl, sym, ◌∙◌, ap, subst}
use Rattle.dine_graph.specs.Plan.{SeenPlan}
use Rattle.dine_rules.specs.declared.events.EventKind.{EventKind}
use Rattle.dine_rules.specs.Journals.{IsLowestFirst, IsWholeOrder}
use Rattle.dine_rules.specs.Shown.{plan_shown}
use Rattle.dine_rules.proofs.shared.journals.Shown.{sites_shown}
use Rattle.dine_order.specs.declared.orders.OrderFault.{OrderFault}
use Rattle.dine_order.specs.declared.orders.OrderFault.TheVariants.{CountDiffers, Stuck, NotClosed, Memory}
use Rattle.dine_order.specs.Orders.{OrderFaultIs}
use Rattle.dine_threads.specs.declared.gathered.SiteOut.{SiteOut}
use Rattle.dine_threads.specs.Journals.{HaveOrder}
use Rattle.dine_run.proofs.orders.order_of.Goals as goal

-- if there is an order, a failed allocation is the only fault
only_memory : (plan : SeenPlan) (journals : List (List EventKind)) (fault : OrderFault) → HaveOrder plan journals → OrderFaultIs (plan_shown plan journals) journals fault → fault ≢ Memory → ⊥
only_memory plan journals CountDiffers order h other = h (order.count ∙ sym (sites_shown plan journals))
only_memory plan journals (Stuck site placed) order h other = h.2 order.events order.is_order
only_memory plan journals NotClosed order h other = h.2 order.events order.is_order
only_memory plan journals Memory order h other = other refl

pub returns-in-Ok-clause-order : goal.returns-in-Ok-clause-order
returns-in-Ok-clause-order g c =
    let same = ap (map (λ (out : SiteOut _). out.journal.items)) c.as_slice.ensures.value in
    subst (λ (journals : List (List EventKind)). IsWholeOrder (plan_shown c.args.plan.now journals) journals c.in-Ok.events.items) same c.in-Ok.ensures.order

pub returns-in-Ok-clause-lowest : goal.returns-in-Ok-clause-lowest
returns-in-Ok-clause-lowest g c =
    let same = ap (map (λ (out : SiteOut _). out.journal.items)) c.as_slice.ensures.value in
    subst (λ (journals : List (List EventKind)). IsLowestFirst (plan_shown c.args.plan.now journals) journals c.in-Ok.events.items) same c.in-Ok.ensures.lowest

pub returns-in-Ok-clause-apart : goal.returns-in-Ok-clause-apart
returns-in-Ok-clause-apart g c =
    let journals = map (λ (out : SiteOut _). out.journal.items) c.as_slice.result.now in
    c.neighbours_eat_apart_in_each_order.ensures.shown c.args.plan.now journals c.in-Ok.events.items c.requires.ordered.is_plan c.in-Ok.ensures.order

pub unreachable-requires : goal.unreachable-requires
unreachable-requires g c =
    let same = ap (map (λ (out : SiteOut _). out.journal.items)) c.as_slice.ensures.value in
    let journals = map (λ (out : SiteOut _). out.journal.items) c.as_slice.result.now in
    only_memory c.args.plan.now journals c.in-Err.fault (subst (HaveOrder c.args.plan.now) (sym same) c.requires.ordered) c.in-Err.ensures.fault c.in_default.not-Memory
