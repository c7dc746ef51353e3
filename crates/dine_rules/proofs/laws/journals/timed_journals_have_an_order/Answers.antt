use Rattle.dine_rules.proofs.timed.Orders.{have_order}
use Rattle.dine_rules.proofs.shared.timed.OrdersShown.{order_shown}
use Rattle.dine_rules.proofs.laws.journals.timed_journals_have_an_order.Goals as goal

pub returns : goal.returns
returns c = record {
  own = λ plan journals states is_plan done outcomes complete times. have_order plan is_plan journals states done times outcomes complete;
  shown = order_shown;
}
