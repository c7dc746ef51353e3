use Rattle.std.proofs.Common.{rules, ◌≡◌, ◌≤◌, length, vec_len, vec_capacity, vec_items, ap, arith}
use Rattle.dine_graph.specs.Plan.{edges_of}
use Rattle.dine_threads.proofs.shared.all_sites.Collected.{each_of_none, each_more}
use Rattle.dine_threads.proofs.collecting.empty_rows.Goals as goal

pub loop-site-init : goal.loop-site-init
loop-site-init g c =
    let plan = c.args.plan.now in
    let rows = vec_items c.in_ok-rows.rows in
    record {
      len = search rules;
      room = omega (arith, c.in_ok-rows.ensures.capacity, c.sites.ensures.count);
      rooms = each_of_none (λ s row. length (edges_of plan s) ≤ vec_capacity row) rows c.in_ok-rows.ensures.items;
      none = each_of_none (λ s row. vec_len row ≡ 0) rows c.in_ok-rows.ensures.items;
    }

pub loop-site-preserved : goal.loop-site-preserved
loop-site-preserved g c =
    let plan = c.args.plan.now in
    let was = c.loop-site.invariant in
    let old = vec_items c.loop-site.rows in
    let new = vec_items c.push_reserved.new.self in
    let row = c.in_ok-with_capacity.field-0 in
    let site : length old ≡ c.loop-site.site = omega (arith, was.len, c.loop-site.rows.ok.0) in
    let room : length (edges_of plan (length old)) ≤ vec_capacity row =
    omega (arith, c.in_ok-with_capacity.ensures.capacity, ap length c.edges_of.ensures.edges, ap (λ s. length (edges_of plan s)) site) in
    record {
      len = omega (arith, was.len, c.push_reserved.ensures.len);
      room = omega (arith, was.room, c.push_reserved.ensures.capacity);
      rooms = each_more (λ s r. length (edges_of plan s) ≤ vec_capacity r) old new row c.push_reserved.ensures.items was.rooms room;
      none = each_more (λ s r. vec_len r ≡ 0) old new row c.push_reserved.ensures.items was.none c.in_ok-with_capacity.ensures.len;
    }
