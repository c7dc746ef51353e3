use Rattle.dine_rules.proofs.shared.timed.OrdersShown.{order_shown}
use Rattle.dine_wire.proofs.CarriedSites.{ordered_by_bytes}
use Rattle.dine_wire.proofs.laws.processes_have_an_order.Goals as goal

pub returns : goal.returns
returns c = record {
  links = ordered_by_bytes;
  order = λ plan run journals states all sites journal quits complete timed.
      order_shown plan journals states all.is_plan (record { sites = sites; each = journal; links = ordered_by_bytes plan run states all }) quits complete timed;
}
