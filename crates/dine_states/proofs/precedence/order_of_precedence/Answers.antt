use Rattle.std.proofs.Common.{◌∙◌}
use Rattle.dine_states.proofs.Orders.{shown}
use Rattle.dine_states.proofs.precedence.order_of_precedence.Goals as goal

pub returns : goal.returns
returns c state is =
    shown (λ order. order.items) c.args.plan.now state c.sites.result _ c.in_ok-found.found c.sites.ensures.count
    (c.as_slice.ensures.value ∙ c.in_ok-ends.ensures state is) (c.precedence_is_acyclic.ensures c.args.plan.now is.reached.events state is.reached.is_plan is.reached.reaches) c.in_ok-found.ensures
