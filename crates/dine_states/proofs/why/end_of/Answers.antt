use Rattle.std.proofs.Common.{◌<◌, refl, arith}
use Rattle.dine_graph.specs.Plan.{site_count}
use Rattle.dine_states.proofs.FirstReasons.{end_there, no_end}
use Rattle.dine_states.proofs.why.end_of.Goals as goal

pub returns-in-Some : goal.returns-in-Some
returns-in-Some c =
    let within : c.args.event.site < site_count c.args.plan.now = omega (arith, c.sites.ensures.count) in
    end_there c.args.plan.now c.args.event within c.in-Some.place c.at.result c.in-Some.ensures c.at.ensures

pub returns-in-None : goal.returns-in-None
returns-in-None c =
    let within : c.args.event.site < site_count c.args.plan.now = omega (arith, c.sites.ensures.count) in
    no_end c.args.plan.now c.args.event within (record { edge = 0; site = c.args.event.site; place = 0; neighbour = 0 }) c.in-None.ensures refl refl
