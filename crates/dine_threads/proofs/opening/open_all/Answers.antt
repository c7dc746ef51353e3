use Rattle.std.proofs.Common.{◌∙◌, sym, subst, vec_items, arith}
use Rattle.dine_threads.proofs.all_sites.Placing.{ringers_at, ports_from_placed}
use Rattle.dine_threads.specs.private.Openings.{bells_of, rows_of}
use Rattle.dine_site_thread.specs.Ports.{seen_ports}
use Rattle.dine_threads.specs.private.Wirings.{AreRung}
use Rattle.dine_threads.specs.declared.opening.SitePorts.{SitePorts}
use Rattle.std.proofs.lemmas.List.{length-map}
use Rattle.std.proofs.lemmas.Option.{slice_get_within}
use Rattle.dine_threads.proofs.opening.open_all.Goals as goal

pub returns-clause-each : goal.returns-clause-each
returns-clause-each g c =
    ports_from_placed g.L.Lane c.args.plan.now (vec_items c.open_sites.new.all_ports) (vec_items c.open_edges.new.all_ports)
    c.in_ok-open_sites.ensures.bare c.in_ok-open_edges.ensures.bells c.in_ok-open_edges.ensures.placed

pub returns-clause-rung : goal.returns-clause-rung
returns-clause-rung g c =
    subst (λ bells. AreRung c.args.plan.now bells (rows_of g.L.Lane (vec_items c.open_edges.new.all_ports))) (sym c.in_ok-open_edges.ensures.bells) c.in_ok-open_edges.ensures.placed.rung

pub open_edges-requires-clause-each : goal.open_edges-requires-clause-each
open_edges-requires-clause-each g c κs ls edge both at =
    ringers_at c.args.plan.now (bells_of (vec_items c.open_sites.new.all_ports)) (vec_items c.open_sites.new.ringers) c.in_ok-open_sites.ensures.ringers edge both c.in_ok-all_ports.ensures.plan
    (omega (arith, slice_get_within (vec_items c.pair_up.new.pairs) edge both at, c.pair_up.ensures.count, c.pair_up.new.pairs.ok.0)) (length-map (vec_items c.open_sites.new.all_ports) (λ (site_ports : SitePorts _ _ _ _). site_ports.bell) ∙ omega (arith, c.in_ok-open_sites.ensures.count, c.open_sites.new.all_ports.ok.0)) (c.pair_up.ensures.each edge both at)

pub open_sites-requires-clause-all_ports : goal.open_sites-requires-clause-all_ports
open_sites-requires-clause-all_ports g c κs ls = c.in_ok-all_ports.ensures.all_ports

pub open_sites-requires-clause-ringers : goal.open_sites-requires-clause-ringers
open_sites-requires-clause-ringers g c κs ls = c.in_ok-all_ports.ensures.rows

pub open_sites-requires-clause-no_ports : goal.open_sites-requires-clause-no_ports
open_sites-requires-clause-no_ports g c κs ls = c.in_ok-all_ports.ensures.no_ports

pub open_sites-requires-clause-no_ringers : goal.open_sites-requires-clause-no_ringers
open_sites-requires-clause-no_ringers g c κs ls = c.in_ok-all_ports.ensures.no_row

pub pair_up-requires-clause-full : goal.pair_up-requires-clause-full
pair_up-requires-clause-full g c = c.in_ok-open_sites.ensures.full

pub pair_up-requires-clause-room : goal.pair_up-requires-clause-room
pair_up-requires-clause-room g c = c.in_ok-all_ports.ensures.pairs

pub pair_up-requires-clause-none : goal.pair_up-requires-clause-none
pair_up-requires-clause-none g c = c.in_ok-all_ports.ensures.no_pair

pub open_edges-requires-clause-plan : goal.open_edges-requires-clause-plan
open_edges-requires-clause-plan g c κs ls = c.in_ok-all_ports.ensures.plan

pub open_edges-requires-clause-ringers : goal.open_edges-requires-clause-ringers
open_edges-requires-clause-ringers g c κs ls = c.pair_up.ensures.count

pub open_edges-requires-clause-count : goal.open_edges-requires-clause-count
open_edges-requires-clause-count g c κs ls = c.in_ok-open_sites.ensures.count

pub open_edges-requires-clause-bare : goal.open_edges-requires-clause-bare
open_edges-requires-clause-bare g c κs ls = c.in_ok-open_sites.ensures.bare

pub returns-clause-len : goal.returns-clause-len
returns-clause-len g c =
    let all_ports = c.open_edges.new.all_ports in
    let rows = length-map (vec_items all_ports) (λ (site_ports : SitePorts _ _ _ _). seen_ports g.L.Lane site_ports.ports.items) in
    omega (arith, c.in_ok-open_edges.ensures.placed.count, rows, all_ports.ok.0)

pub returns-clause-wired : goal.returns-clause-wired
returns-clause-wired g c = c.in_ok-open_edges.ensures.placed.wired
