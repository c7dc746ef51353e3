use Rattle.dine_rules.proofs.journals.EatingApart.{eat_apart}
use Rattle.dine_rules.proofs.shared.timed.OrdersShown.{apart_shown}
use Rattle.dine_rules.proofs.laws.journals.neighbours_eat_apart_in_each_order.Goals as goal

pub returns : goal.returns
returns c = record {
  own = λ plan journals events is_plan order. eat_apart plan is_plan events order.world order.accepted;
  shown = apart_shown;
}
