use Rattle.std.proofs.Common.{◌≡◌, ℕ, ◌+◌, ◌≤◌, ◌++◌, All, Some, map, slice_get, vec_len, vec_capacity, vec_items}
use Rattle.std.specs.Vec.Iter.{into_iter_items, into_iter_len}
use Rattle.dine_graph.specs.Plan.{job_count, site_count}
use Rattle.dine_threads.specs.declared.opening.SitePorts.{SitePorts}
use Rattle.dine_threads.specs.declared.starts.SiteStart.{SiteStart}
use Rattle.dine_threads.specs.private.Openings.{HasPorts}
use Rattle.dine_threads.specs.private.SiteStarts.{IsReady, AreStartsOf}
use Rattle.dine_threads.proofs.starts.prepare_all.Given as goal

abbrev pub invariant-loop-site_ports : goal.invariant-loop-site_ports
invariant-loop-site_ports g l = record {
  count : l.number + into_iter_len l.site_ports-iterator ≡ site_count l.plan;
  waiting : into_iter_len l.waiting ≡ into_iter_len l.site_ports-iterator;
  len : vec_len l.starts ≡ l.number;
  room : site_count l.plan ≤ vec_capacity l.starts;
  all_ports : (k : ℕ) (site_ports : SitePorts _ _ _ _) → slice_get (into_iter_items l.site_ports-iterator) k ≡ Some site_ports → HasPorts g.L.Lane l.plan (l.number + k) site_ports;
  rooms : (k : ℕ) (diner : _) → slice_get (into_iter_items l.waiting) k ≡ Some diner → job_count l.plan (l.number + k) ≤ g.D.Diner.room_left diner;
  expected : (k : ℕ) (diner : _) → slice_get (into_iter_items l.waiting) k ≡ Some diner → g.D.Diner.expects diner l.plan (l.number + k);
  ready : All (IsReady g.L.Lane g.D.Diner) (vec_items l.starts);
  fresh : AreStartsOf l.manner l.plan (vec_items l.starts);
  diners : map (λ (start : SiteStart _ _ _ _ _). start.diner) (vec_items l.starts) ++ into_iter_items l.waiting ≡ vec_items l.fn.diners;
  bells : map (λ (start : SiteStart _ _ _ _ _). start.bell) (vec_items l.starts) ++ map (λ (site_ports : SitePorts _ _ _ _). site_ports.bell) (into_iter_items l.site_ports-iterator) ≡ map (λ (site_ports : SitePorts _ _ _ _). site_ports.bell) (vec_items l.fn.all_ports);
  ports : map (λ (start : SiteStart _ _ _ _ _). start.ports) (vec_items l.starts) ++ map (λ (site_ports : SitePorts _ _ _ _). site_ports.ports) (into_iter_items l.site_ports-iterator) ≡ map (λ (site_ports : SitePorts _ _ _ _). site_ports.ports) (vec_items l.fn.all_ports);
}
