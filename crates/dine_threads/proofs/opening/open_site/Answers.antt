use Rattle.std.proofs.Common.{ℕ, ◌<◌, List, Option, Some, None, length, map, get_or, ap, ◌∙◌, arith}
use Rattle.std.proofs.lemmas.List.FromFn.{length-map-range_with_len}
use Rattle.dine_graph.specs.Plan.{edges_of}
use Rattle.dine_link.specs.Bells.{SeenRinger, new_ringer}
use Rattle.std.proofs.Math.Nat.{zero-add}
use Rattle.dine_threads.proofs.all_sites.Edges.{few_edges}
use Rattle.dine_threads.proofs.all_sites.Placing.{filled, filled_at}
use Rattle.dine_threads.proofs.opening.open_site.Goals as goal

pub overflow_cast-degree : goal.overflow_cast-degree
overflow_cast-degree g c = omega (arith, few_edges c.args.plan.now c.args.site c.edges_of-degree.ensures.plan, ap length c.edges_of-degree.ensures.edges)

pub fill_row-requires-clause-room : goal.fill_row-requires-clause-room
fill_row-requires-clause-room g c =
    let degree = length c.edges_of-degree.result.now in
    omega (arith, c.in_ok-ringers.ringers.ok.0, ap length c.in_ok-ringers.ensures.ringers, length-map-range_with_len (new_ringer c.in_ok-ringers.bell.identity) 0 degree, c.in_ok-ports.ensures.room)

pub returns-clause-full : goal.returns-clause-full
returns-clause-full g c =
    let degree = length c.edges_of-degree.result.now in
    filled c.in_ok-ringers.ringers.items c.fill_row.new.row.items (length (edges_of c.args.plan.now c.args.site))
    (ap length c.in_ok-ringers.ensures.ringers ∙ length-map-range_with_len (new_ringer c.in_ok-ringers.bell.identity) 0 degree ∙ ap length c.edges_of-degree.ensures.edges) c.fill_row.ensures

pub returns-clause-ringers : goal.returns-clause-ringers
returns-clause-ringers g c = λ i within.
    let degree = length c.edges_of-degree.result.now in
    let below : i < degree = omega (arith, within, ap length c.edges_of-degree.ensures.edges) in
    ap (λ (row : List (Option SeenRinger)). get_or row i None) (c.fill_row.ensures ∙ ap (map Some) c.in_ok-ringers.ensures.ringers)
    ∙ filled_at (new_ringer c.in_ok-ringers.bell.identity) 0 degree i below ∙ ap (λ (n : ℕ). Some (new_ringer c.in_ok-ringers.bell.identity n)) (zero-add i)

pub open_bell-requires : goal.open_bell-requires
open_bell-requires g c = omega (arith, few_edges c.args.plan.now c.args.site c.edges_of-degree.ensures.plan, ap length c.edges_of-degree.ensures.edges)
