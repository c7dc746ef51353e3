use Rattle.dine.proofs.Resigning.{resign_as_planned}
use Rattle.dine.proofs.laws.orders_of_plan_diners_are_of_the_plan.Goals as goal

pub returns-clause-order : goal.returns-clause-order
returns-clause-order c = λ manner plan diners gathered events of_plan run order.
    c.orders_are_of_the_plan_if_sites_resign_as_planned.ensures.order plan _ events run.whole.ordered.is_plan (resign_as_planned c.journals_show_a_failure_by_quitting.ensures manner plan diners gathered of_plan run) order

pub returns-clause-world : goal.returns-clause-world
returns-clause-world c = λ manner plan diners gathered events world of_plan run order reaches.
    c.orders_are_of_the_plan_if_sites_resign_as_planned.ensures.world plan _ events world run.whole.ordered.is_plan (resign_as_planned c.journals_show_a_failure_by_quitting.ensures manner plan diners gathered of_plan run) order reaches
