use Rattle.std.proofs.Common.{arith}
use Rattle.dine_threads.proofs.opening.open_lists.Goals as goal

pub returns : goal.returns
returns g c = record {
  plan = c.sites-sites.ensures.plan;
  all_ports = omega (arith, c.sites-sites.ensures.count, c.in_ok-all_ports.ensures.capacity);
  no_ports = c.in_ok-all_ports.ensures.len;
  rows = omega (arith, c.sites-sites.ensures.count, c.in_ok-rows.ensures.capacity);
  no_row = c.in_ok-rows.ensures.len;
  pairs = omega (arith, c.edges.ensures.count, c.in_ok-pairs.ensures.capacity);
  no_pair = c.in_ok-pairs.ensures.len;
}
