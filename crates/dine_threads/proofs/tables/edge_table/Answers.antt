use Rattle.std.proofs.Common.{◌≡◌, ℕ, ◌<◌, Some, List, length, get_or, map, slice_get, vec_items, sym, ◌∙◌, ap, inl, inr, arith}
use Rattle.std.specs.List.{range_with_len}
use Rattle.std.proofs.lemmas.List.FromFn.{map-range_with_len_more}
use Rattle.std.proofs.lemmas.Option.{slice_get_read, get_or_from_slice_get}
use Rattle.dine_token.specs.Fork.{SeenFork, no_fork}
use Rattle.dine_token.specs.Log.{meals_of}
use Rattle.dine_graph.specs.Plan.{SeenPlan, edge_count, ends_of}
use Rattle.dine_threads.specs.declared.tables.EdgeRow.{EdgeRow}
use Rattle.dine_threads.specs.Tables.{logged_row}
use Rattle.dine_threads.proofs.shared.all_sites.Rows.{fork_count}
use Rattle.dine_threads.proofs.tables.edge_table.Goals as goal

-- the fork that is read stands at its edge
fork_at : (plan : SeenPlan) (forks : List SeenFork) (edge len : ℕ) (fork : SeenFork) → map (λ (f : SeenFork). f.edge) forks ≡ range_with_len 0 (edge_count plan) → len ≡ length forks → edge < edge_count plan → fork ≡ get_or forks edge fork → slice_get forks edge ≡ Some fork
fork_at plan forks edge len fork each count within is = slice_get_read forks len edge fork count (omega (arith, fork_count plan forks each, count, within)) is

-- the row that is written is that of the edge
row_is : (plan : SeenPlan) (forks : List SeenFork) (edge lo_meals hi_meals value : ℕ) (ends : ℕ × ℕ) (fork : SeenFork) → slice_get forks edge ≡ Some fork → ends ≡ ends_of plan edge → lo_meals ≡ meals_of ends.0 fork.log → hi_meals ≡ meals_of ends.1 fork.log
    → value ≡ fork.value
    → ◌≡◌ {A = EdgeRow} (record { edge = edge; lo = ends.0; hi = ends.1; lo_meals = lo_meals; hi_meals = hi_meals; value = value }) (logged_row plan forks edge)
row_is plan forks edge lo_meals hi_meals value ends fork at is lo hi value_is =
    let same = get_or_from_slice_get forks edge fork no_fork at in
    cc

pub index-fork-requires : goal.index-fork-requires
index-fork-requires g c =
    let forks = c.args.gathered.now.forks in
    omega (arith, fork_count c.args.plan.now (vec_items forks) c.requires.one_fork_an_edge, forks.ok.0, c.loop-edge-test.true, c.edges-edge-end.ensures.count)

pub meals_of-requires : goal.meals_of-requires
meals_of-requires g c =
    let forks = c.args.gathered.now.forks in
    let at = fork_at c.args.plan.now (vec_items forks) c.loop-edge.edge forks.len c.index-fork.result.now c.requires.one_fork_an_edge forks.ok.0 (omega (arith, c.loop-edge-test.true, c.edges-edge-end.ensures.count)) c.index-fork.ensures in
    inl (ap (λ (ends : ℕ × ℕ). ends.0) (c.ends-lo.ensures.ends ∙ sym (c.requires.ends c.loop-edge.edge c.index-fork.result.now at)))

pub meals_of-requires-in-loop-edge : goal.meals_of-requires-in-loop-edge
meals_of-requires-in-loop-edge g c =
    let forks = c.args.gathered.now.forks in
    let at = fork_at c.args.plan.now (vec_items forks) c.loop-edge.edge forks.len c.index-fork.result.now c.requires.one_fork_an_edge forks.ok.0 (omega (arith, c.loop-edge-test.true, c.edges-edge-end.ensures.count)) c.index-fork.ensures in
    inr (ap (λ (ends : ℕ × ℕ). ends.1) (c.ends-lo.ensures.ends ∙ sym (c.requires.ends c.loop-edge.edge c.index-fork.result.now at)))

pub loop-edge-preserved : goal.loop-edge-preserved
loop-edge-preserved g c =
    let plan = c.args.plan.now in
    let forks = c.args.gathered.now.forks in
    let edge = c.loop-edge.edge in
    let at = fork_at plan (vec_items forks) edge forks.len c.index-fork.result.now c.requires.one_fork_an_edge forks.ok.0 (omega (arith, c.loop-edge-test.true, c.edges-edge-end.ensures.count)) c.index-fork.ensures in
    let row = row_is plan (vec_items forks) edge c.meals_of.result c.meals_of-in-loop-edge.result c.value.result c.ends-lo.result c.index-fork.result.now at c.ends-lo.ensures.ends c.meals_of.ensures.meals c.meals_of-in-loop-edge.ensures.meals c.value.ensures.value in
    let more = map-range_with_len_more (logged_row plan (vec_items forks)) 0 edge edge (omega arith) in
    let grown = c.push_reserved.ensures.items in
    let was = c.loop-edge.invariant.rows in
    record {
      len = omega (arith, c.loop-edge.invariant.len, c.push_reserved.ensures.len);
      room = omega (arith, c.loop-edge.invariant.room, c.push_reserved.ensures.capacity);
      rows = cc;
    }
