use Rattle.std.proofs.Common.{◌≡◌, List, None, Option, length, ap, ◌∙◌, arith, vec_items}
use Rattle.std.proofs.lemmas.List.{length-replicate}
use Rattle.dine_graph.specs.Plan.{edge_count}
use Rattle.dine_token.specs.Fork.{SeenFork}
use Rattle.dine_threads.specs.private.Collecting.{forks_left, forks_found, in_slots}
use Rattle.dine_threads.proofs.shared.all_sites.Collected.{length-in_slots, links_of_pairs, pairs_joined, rows_full}
use Rattle.dine_threads.proofs.collecting.collect.Goals as goal

pub pair_up-requires-clause-full : goal.pair_up-requires-clause-full
pair_up-requires-clause-full g c = rows_full (vec_items c.args.ends) (vec_items c.split_ends.new.rows) c.split_ends.ensures.rows c.args.plan.now c.requires.whole

pub reconcile_all-requires-clause-joined : goal.reconcile_all-requires-clause-joined
reconcile_all-requires-clause-joined g c κs within =
    let count : length (vec_items c.pair_up.new.pairs) ≡ edge_count c.args.plan.now = omega (arith, c.pair_up.ensures.count, c.pair_up.new.pairs.ok.0) in
    pairs_joined g.L.Lane c.args.plan.now (vec_items c.args.ends) (vec_items c.split_ends.new.rows) c.split_ends.ensures.rows (vec_items c.pair_up.new.pairs) count c.pair_up.ensures.each c.requires.wired

pub pick_forks-requires-clause-room : goal.pick_forks-requires-clause-room
pick_forks-requires-clause-room g c =
    let slots_len = length-in_slots (forks_left (vec_items c.args.ends)) (vec_items c.args.room.slots) in
    let count = ap length c.requires.room.slots ∙ length-replicate (edge_count c.args.plan.now) None in
    omega (arith, c.requires.room.forks, c.split_ends.new.slots.ok.0, ap length c.split_ends.ensures.slots, slots_len, count)

pub returns-clause-links : goal.returns-clause-links
returns-clause-links g c =
    let count : length (vec_items c.pair_up.new.pairs) ≡ edge_count c.args.plan.now = omega (arith, c.pair_up.ensures.count, c.pair_up.new.pairs.ok.0) in
    links_of_pairs g.L.Lane c.args.plan.now (vec_items c.args.ends) (vec_items c.split_ends.new.rows) c.split_ends.ensures.rows (vec_items c.pair_up.new.pairs) count c.pair_up.ensures.each (vec_items c.reconcile_all.new.links) c.reconcile_all.ensures.lists

pub returns-clause-forks : goal.returns-clause-forks
returns-clause-forks g c =
    c.pick_forks.ensures ∙ ap forks_found c.split_ends.ensures.slots ∙ ap (λ (slots : List (Option SeenFork)). forks_found (in_slots (forks_left (vec_items c.args.ends)) slots)) c.requires.room.slots

pub returns-clause-sites : goal.returns-clause-sites
returns-clause-sites g c = c.split_ends.ensures.sites

pub returns-clause-in_order : goal.returns-clause-in_order
returns-clause-in_order g c = c.reconcile_all.ensures.in_order

pub returns-clause-whole : goal.returns-clause-whole
returns-clause-whole g c = c.reconcile_all.ensures.whole

pub split_ends-requires-clause-empty_rows : goal.split_ends-requires-clause-empty_rows
split_ends-requires-clause-empty_rows g c κs ls = c.requires.room.empty_rows

pub split_ends-requires-clause-empty_room : goal.split_ends-requires-clause-empty_room
split_ends-requires-clause-empty_room g c κs ls = c.requires.room.empty_room

pub split_ends-requires-clause-no_thing : goal.split_ends-requires-clause-no_thing
split_ends-requires-clause-no_thing g c κs ls = c.requires.room.no_thing

pub split_ends-requires-clause-site_room : goal.split_ends-requires-clause-site_room
split_ends-requires-clause-site_room g c κs ls = c.requires.room.sites

pub split_ends-requires-clause-no_site : goal.split_ends-requires-clause-no_site
split_ends-requires-clause-no_site g c κs ls = c.requires.room.no_site

pub split_ends-requires-clause-row_room : goal.split_ends-requires-clause-row_room
split_ends-requires-clause-row_room g c κs ls = c.requires.room.rows

pub split_ends-requires-clause-no_row : goal.split_ends-requires-clause-no_row
split_ends-requires-clause-no_row g c κs ls = c.requires.room.no_row

pub split_ends-requires-clause-whole : goal.split_ends-requires-clause-whole
split_ends-requires-clause-whole g c κs ls = c.requires.whole

pub split_ends-requires-clause-slots : goal.split_ends-requires-clause-slots
split_ends-requires-clause-slots g c κs ls =
    omega (arith, c.args.room.slots.ok.0, ap length c.requires.room.slots, length-replicate {A = Option SeenFork} (edge_count c.args.plan.now) None)

pub pair_up-requires-clause-room : goal.pair_up-requires-clause-room
pair_up-requires-clause-room g c = c.requires.room.pairs

pub pair_up-requires-clause-none : goal.pair_up-requires-clause-none
pair_up-requires-clause-none g c = c.requires.room.no_pair

pub reconcile_all-requires-clause-room : goal.reconcile_all-requires-clause-room
reconcile_all-requires-clause-room g c κs ls = omega (arith, c.pair_up.ensures.count, c.requires.room.links)

pub reconcile_all-requires-clause-none : goal.reconcile_all-requires-clause-none
reconcile_all-requires-clause-none g c κs ls = c.requires.room.no_link

pub pick_forks-requires-clause-none : goal.pick_forks-requires-clause-none
pick_forks-requires-clause-none g c = c.requires.room.no_fork
