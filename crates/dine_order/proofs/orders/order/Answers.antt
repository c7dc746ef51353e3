use Rattle.std.proofs.Common.{sym, ◌∙◌, map}
use Rattle.std.proofs.lemmas.List.{length-map}
use Rattle.dine_rules.specs.Shown.{plan_shown}
use Rattle.dine_order.specs.Orders.{OrderFaultIs}
use Rattle.dine_order.proofs.Answering.{memory_told}
use Rattle.dine_order.proofs.shared.Shown.{counted_too, sites_shown}
use Rattle.dine_order.proofs.orders.order.Goals as goal

pub returns-then-journals-sites-clause-fault : goal.returns-then-journals-sites-clause-fault
returns-then-journals-sites-clause-fault g c = λ same.
    c.if-journals-sites.true (sym (length-map c.args.journals.now _) ∙ same ∙ sites_shown c.args.plan.now (map g.J.AsSlice.items c.args.journals.now) ∙ sym c.sites.ensures.count)

pub returns-in_err-counts-clause-fault : goal.returns-in_err-counts-clause-fault
returns-in_err-counts-clause-fault g c =
    let lists = map g.J.AsSlice.items c.args.journals.now in
    memory_told c.from_residual.result c.from_residual.ensures.1 (OrderFaultIs (plan_shown c.args.plan.now lists) lists) (counted_too c.args.plan.now g.J.AsSlice.items c.args.journals.now (c.if-journals-sites.false ∙ c.sites.ensures.count))
