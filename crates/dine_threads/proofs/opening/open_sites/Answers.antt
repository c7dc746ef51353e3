use Rattle.std.proofs.Common.{vec_items, arith}
use Rattle.std.proofs.lemmas.Option.{slice_get_within}
use Rattle.dine_threads.proofs.all_sites.Placing.{bare_more, full_more, ringers_more}
use Rattle.dine_threads.specs.private.Openings.{bells_of}
use Rattle.dine_threads.specs.declared.opening.SitePorts.{SitePorts}
use Rattle.std.proofs.lemmas.List.{length-map}
use Rattle.dine_threads.proofs.opening.open_sites.Goals as goal

pub loop-site-init : goal.loop-site-init
loop-site-init g c = record {
  all_ports_len = omega arith;
  ringers_len = omega arith;
  all_ports_room = omega arith;
  ringers_room = omega arith;
  bare = λ s site_ports at. absurd (omega (arith, slice_get_within (vec_items c.args.all_ports.now) s site_ports at, c.args.all_ports.now.ok.0, c.requires.no_ports));
  ringers = λ s i bell at inside. absurd (omega (arith, slice_get_within (bells_of (vec_items c.args.all_ports.now)) s bell at, length-map (vec_items c.args.all_ports.now) (λ (site_ports : SitePorts _ _ _ _). site_ports.bell), c.args.all_ports.now.ok.0, c.requires.no_ports));
  full = λ s below. absurd (omega (arith, below));
}

pub loop-site-preserved : goal.loop-site-preserved
loop-site-preserved g c =
    let was = c.loop-site.invariant in
    let all_ports = c.push_reserved.ensures in
    let ringers = c.push_reserved-in-loop-site.ensures in
    record {
      all_ports_len = omega (arith, was.all_ports_len, all_ports.len);
      ringers_len = omega (arith, was.ringers_len, ringers.len);
      all_ports_room = omega (arith, was.all_ports_room, all_ports.capacity);
      ringers_room = omega (arith, was.ringers_room, ringers.capacity);
      bare =
          bare_more c.args.plan.now (vec_items c.loop-site.all_ports) (vec_items c.push_reserved.new.self) c.in_ok-site_ports.site_ports c.loop-site.site
          (omega (arith, was.all_ports_len, c.loop-site.all_ports.ok.0)) all_ports.items was.bare c.in_ok-site_ports.ensures.site_ports;
      ringers =
          ringers_more c.args.plan.now (vec_items c.loop-site.all_ports) (vec_items c.push_reserved.new.self) c.in_ok-site_ports.site_ports (vec_items c.loop-site.ringers) (vec_items c.push_reserved-in-loop-site.new.self) c.in_ok-site_ports.row c.loop-site.site
          (omega (arith, was.all_ports_len, c.loop-site.all_ports.ok.0)) (omega (arith, was.ringers_len, c.loop-site.ringers.ok.0)) all_ports.items ringers.items was.ringers c.in_ok-site_ports.ensures.ringers;
      full =
          full_more c.args.plan.now (vec_items c.loop-site.ringers) (vec_items c.push_reserved-in-loop-site.new.self) c.in_ok-site_ports.row c.loop-site.site
          (omega (arith, was.ringers_len, c.loop-site.ringers.ok.0)) ringers.items was.full c.in_ok-site_ports.ensures.full;
    }

pub returns-clause-full : goal.returns-clause-full
returns-clause-full g c = λ s within. c.loop-site.invariant.full s (omega (arith, c.loop-site-test.false, c.sites-site-end.ensures.count, within))
