use Rattle.std.proofs.Common.{[], ◌∷◌, ◌++◌, List, map, ap, arith}
use Rattle.std.proofs.Math.Seq.{map-set_same}
use Rattle.dine_site_thread.specs.Ports.{SeenPort, seen_port}
use Rattle.dine_threads.specs.declared.opening.SitePorts.{SitePorts}
use Rattle.dine_threads.proofs.all_sites.Placing.{map_grown, map-set_read}
use Rattle.dine_threads.proofs.opening.add_port.Goals as goal

pub returns-clause-bells : goal.returns-clause-bells
returns-clause-bells g c =
    let all_ports = c.args.all_ports.now in
    let old = c.index_mut.result.now in
    let new : SitePorts _ _ _ _ = record { ports = c.push.new.self; bell = old.bell; outside = old.outside } in
    let bell = λ (site_ports : SitePorts _ _ _ _). site_ports.bell in
    map-set_same bell all_ports.items c.args.site new old (ap bell c.index_mut.ensures.value)

pub returns-clause-rows : goal.returns-clause-rows
returns-clause-rows g c =
    let all_ports = c.args.all_ports.now in
    let old = c.index_mut.result.now in
    let new : SitePorts _ _ _ _ = record { ports = c.push.new.self; bell = old.bell; outside = old.outside } in
    let seen = seen_port g.L.Lane in
    map-set_read (λ (site_ports : SitePorts _ _ _ _). map seen site_ports.ports.items) all_ports.items c.args.site old new (λ (row : List (SeenPort g.L.Lane.Identity)). row ++ seen c.args.port ∷ []) []
    (omega (arith, all_ports.ok.0)) c.index_mut.ensures.value (map_grown seen old.ports.items c.push.new.self.items c.args.port c.in_ok-push.ensures.items)
