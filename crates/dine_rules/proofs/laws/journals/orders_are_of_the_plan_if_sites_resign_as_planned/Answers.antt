use Rattle.std.proofs.Common.{◌≡◌, ◌∙◌, subst, sym}
use Rattle.std.proofs.lemmas.Option.{same_Some}
use Rattle.dine_rules.specs.World.{Reaches}
use Rattle.dine_rules.proofs.journals.OwnOutcomes.{own_order, own_world}
use Rattle.dine_rules.proofs.laws.journals.orders_are_of_the_plan_if_sites_resign_as_planned.Goals as goal

pub returns-clause-order : goal.returns-clause-order
returns-clause-order c = λ plan journals events is_plan planned. own_order plan journals is_plan planned events

-- the events lead to one world only
pub returns-clause-world : goal.returns-clause-world
returns-clause-world c = λ plan journals events world is_plan planned order reaches.
    let same : order.world ≡ world = same_Some order.world world (sym order.accepted ∙ reaches) in
    subst (Reaches plan events) same (own_world plan journals is_plan planned events order)
