use Rattle.std.proofs.Common.{sym, subst, vec_items, arith}
use Rattle.dine_site_thread.specs.Ports.{seen_ports}
use Rattle.dine_threads.specs.private.Wirings.{AreRung, AreWired}
use Rattle.dine_threads.specs.private.Openings.{bells_of}
use Rattle.dine_threads.specs.private.Setups.{rows_of_starts}
use Rattle.dine_threads.specs.declared.opening.SitePorts.{SitePorts}
use Rattle.dine_threads.specs.declared.starts.SiteStart.{SiteStart}
use Rattle.dine_threads.proofs.shared.lists.Zips.{mapped_through}
use Rattle.dine_threads.proofs.threads.set_up.Goals as goal

pub returns : goal.returns
returns g c =
    let rows = mapped_through (λ (start : SiteStart _ _ _ _ _). start.ports) (λ (site_ports : SitePorts _ _ _ _). site_ports.ports) (λ ports. seen_ports g.L.Lane ports.items) (vec_items c.prepare_all.new.starts) (vec_items c.in_ok-all_ports.all_ports) c.in_ok-prepare_all.ensures.ports in
    record {
      count = c.in_ok-prepare_all.ensures.len;
      ready = c.in_ok-prepare_all.ensures.ready;
      fresh = c.in_ok-prepare_all.ensures.fresh;
      diners = c.in_ok-prepare_all.ensures.diners;
      rung = subst (λ bells. AreRung c.args.plan.now bells (rows_of_starts g.L.Lane (vec_items c.prepare_all.new.starts))) (sym c.in_ok-prepare_all.ensures.bells)
          (subst (AreRung c.args.plan.now (bells_of (vec_items c.in_ok-all_ports.all_ports))) (sym rows) c.in_ok-all_ports.ensures.rung);
      wired = subst (AreWired c.args.plan.now) (sym rows) c.in_ok-all_ports.ensures.wired;
      children = c.in_ok-children.ensures.children;
      no_child = c.in_ok-children.ensures.no_child;
      ends = c.in_ok-children.ensures.ends;
      no_end = c.in_ok-children.ensures.no_end;
      gathered = c.in_ok-children.ensures.room;
    }

pub prepare_all-requires-clause-all_ports : goal.prepare_all-requires-clause-all_ports
prepare_all-requires-clause-all_ports g c κs ls = c.in_ok-all_ports.ensures.len

pub prepare_all-requires-clause-diners : goal.prepare_all-requires-clause-diners
prepare_all-requires-clause-diners g c κs ls = c.requires.diners

pub prepare_all-requires-clause-each : goal.prepare_all-requires-clause-each
prepare_all-requires-clause-each g c κs ls = c.in_ok-all_ports.ensures.each

pub prepare_all-requires-clause-rooms : goal.prepare_all-requires-clause-rooms
prepare_all-requires-clause-rooms g c κs ls = c.requires.rooms

pub prepare_all-requires-clause-expected : goal.prepare_all-requires-clause-expected
prepare_all-requires-clause-expected g c κs ls = c.requires.expected

pub prepare_all-requires-clause-capacity : goal.prepare_all-requires-clause-capacity
prepare_all-requires-clause-capacity g c κs ls = omega (arith, c.in_ok-starts.ensures.capacity, c.sites.ensures.count)

pub prepare_all-requires-clause-none : goal.prepare_all-requires-clause-none
prepare_all-requires-clause-none g c κs ls = c.in_ok-starts.ensures.len
