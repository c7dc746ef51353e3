use Rattle.std.proofs.Common.{◌≡◌, ℕ, length, ap, arith}
use Rattle.std.proofs.lemmas.List.{length-map}
use Rattle.std.proofs.lemmas.Result.{on_ok_weaker}
use Rattle.dine_threads.specs.private.Openings.{bells_of, rows_of}
use Rattle.dine_site_thread.specs.Ports.{seen_port, seen_ports}
use Rattle.dine_threads.specs.declared.opening.SitePorts.{SitePorts}
use Rattle.dine_threads.proofs.all_sites.Placing.{placed_by, with_port}
use Rattle.dine_threads.proofs.opening.open_edge.Goals as goal

pub returns-clause-placed : goal.returns-clause-placed
returns-clause-placed g c =
    let plan = c.args.plan.now in
    let lane = g.L.Lane in
    let bells = bells_of c.args.all_ports.now.items in
    let low = seen_port lane c.in_ok-low.field-0.low in
    let high = seen_port lane c.in_ok-low.field-0.high in
    let before = rows_of lane c.args.all_ports.now.items in
    let half = rows_of lane c.add_port.new.all_ports.items in
    let after = rows_of lane c.add_port-2.new.all_ports.items in
    let ends = c.ends-lower.ensures in
    on_ok_weaker c.add_port-2.result
    (λ (is : after ≡ with_port half c.ends-lower.result.1 high). placed_by plan bells c.args.edge before half after low high c.ends-lower.result ends.plan c.requires.edge ends.ends c.in_ok-add_port.ensures.rows is (c.in_ok-low.ensures bells c.requires.ringers) c.requires.placed)
    c.add_port-2.ensures.rows

pub add_port-requires-after_bounds : goal.add_port-requires-after_bounds
add_port-requires-after_bounds g c = λ κs bounds.
    let n = c.args.edge in
    let ends = c.ends-lower.ensures in
    let all_ports = c.args.all_ports.now in
    let rows = length-map all_ports.items (λ (site_ports : SitePorts _ _ _ _). seen_ports g.L.Lane site_ports.ports.items) in
    omega (arith, ap (λ (p : ℕ × ℕ). p.0) ends.ends, ends.plan.ordered n c.requires.edge, ends.plan.within n c.requires.edge, c.requires.placed.count, rows, all_ports.ok.0)

pub add_port-requires-2-after_bounds : goal.add_port-requires-2-after_bounds
add_port-requires-2-after_bounds g c = λ κs bounds.
    let n = c.args.edge in
    let ends = c.ends-lower.ensures in
    let all_ports = c.args.all_ports.now in
    let half = c.add_port.new.all_ports in
    let rows = length-map all_ports.items (λ (site_ports : SitePorts _ _ _ _). seen_ports g.L.Lane site_ports.ports.items) in
    omega (arith, ap (λ (p : ℕ × ℕ). p.1) ends.ends, ends.plan.within n c.requires.edge, c.requires.placed.count, rows, all_ports.ok.0, ap length c.in_ok-add_port.ensures.bells, length-map all_ports.items (λ (site_ports : SitePorts _ _ _ _). site_ports.bell), length-map half.items (λ (site_ports : SitePorts _ _ _ _). site_ports.bell), half.ok.0)
