use Rattle.std.proofs.Common.{arith}
use Rattle.dine_threads.proofs.collecting.site_lists.Goals as goal

pub returns : goal.returns
returns g c = record {
  sites = omega (arith, c.sites.ensures.count, c.in_ok-sites.ensures.capacity);
  no_site = c.in_ok-sites.ensures.len;
  empty_rows = c.in_ok-empty.ensures.count;
  empty_room = c.in_ok-empty.ensures.room;
  no_thing = c.in_ok-empty.ensures.none;
  rows = omega (arith, c.sites-2.ensures.count, c.in_ok-rows.ensures.capacity);
  no_row = c.in_ok-rows.ensures.len;
}
