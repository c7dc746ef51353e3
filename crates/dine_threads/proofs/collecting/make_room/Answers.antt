use Rattle.std.proofs.Common.{arith}
use Rattle.dine_threads.proofs.collecting.make_room.Goals as goal

pub returns : goal.returns
returns g c =
    let edges = c.edges.ensures.count in
    let lists = c.in_ok-pairs.ensures in
    let sites = c.in_ok-sites.ensures in
    record {
      sites = sites.sites;
      no_site = sites.no_site;
      empty_rows = sites.empty_rows;
      empty_room = sites.empty_room;
      no_thing = sites.no_thing;
      rows = sites.rows;
      no_row = sites.no_row;
      pairs = omega (arith, edges, lists.pairs);
      no_pair = lists.no_pair;
      links = omega (arith, edges, lists.links);
      no_link = lists.no_link;
      slots = c.in_ok-empty_slots.ensures;
      forks = omega (arith, edges, lists.forks);
      no_fork = lists.no_fork;
    }
