use Rattle.std.proofs.Common.{rules, ℕ, suc, ◌+◌, ◌≡◌, List, Some, slice_get, refl, sym, ◌∙◌, ap, subst, vec_items, arith}
use Rattle.dine_graph.specs.Plan.{edge_count}
use Rattle.dine_threads.specs.private.Openings.{ArePlaced, bells_of, rows_of}
use Rattle.dine_threads.specs.private.Wirings.{AreRingersAt}
use Rattle.dine_link.specs.Bells.{SeenBell}
use Rattle.std.proofs.Math.Nat.{zero-add}
use Rattle.dine_threads.proofs.all_sites.Placing.{placed_none}
use Rattle.dine_threads.proofs.opening.open_edges.Goals as goal

pub loop-pair-init : goal.loop-pair-init
loop-pair-init g c =
    let all_ports = c.args.all_ports.now in
    record {
      count = search rules;
      bells = refl;
      ringers = λ k pair at.
          subst (λ (n : ℕ). AreRingersAt c.args.plan.now (bells_of (vec_items all_ports)) n pair) (sym (zero-add k))
          (c.requires.each k pair (subst (λ xs. slice_get xs k ≡ Some pair) c.into_iter-pair-iterator.ensures.into_iter_gives.0 at));
      placed = placed_none g.L.Lane c.args.plan.now (vec_items all_ports) (omega (arith, c.requires.count, all_ports.ok.0)) c.requires.bare;
    }

pub overflow_add-edge : goal.overflow_add-edge
overflow_add-edge g c = omega (arith, c.loop-pair.invariant.count, c.in-Some.ensures.steps.1, c.requires.plan.few_edges)

pub loop-pair-preserved : goal.loop-pair-preserved
loop-pair-preserved g c = record {
  count = search rules;
  bells = c.in_ok-open_edge.ensures.bells ∙ c.loop-pair.invariant.bells;
  ringers = λ k pair at.
      let shift : c.loop-pair.edge + suc k ≡ c.loop-pair.edge + 1 + k = omega arith in
      subst (λ (n : ℕ). AreRingersAt c.args.plan.now (bells_of (vec_items c.args.all_ports.now)) n pair) shift
      (c.loop-pair.invariant.ringers (suc k) pair (ap (λ xs. slice_get xs (suc k)) c.in-Some.ensures.steps.0 ∙ at));
  placed = subst (λ (bells : List SeenBell). ArePlaced c.args.plan.now bells (c.loop-pair.edge + 1) (rows_of g.L.Lane (vec_items c.open_edge.new.all_ports))) c.loop-pair.invariant.bells c.in_ok-open_edge.ensures.placed;
}

pub open_edge-requires-clause-ringers : goal.open_edge-requires-clause-ringers
open_edge-requires-clause-ringers g c κs ls =
    let still : c.loop-pair.edge + 0 ≡ c.loop-pair.edge = omega arith in
    subst (λ (bells : List SeenBell). AreRingersAt c.args.plan.now bells c.loop-pair.edge c.in-Some.pair) (sym c.loop-pair.invariant.bells)
    (subst (λ (n : ℕ). AreRingersAt c.args.plan.now (bells_of (vec_items c.args.all_ports.now)) n c.in-Some.pair) still
    (c.loop-pair.invariant.ringers 0 c.in-Some.pair (ap (λ xs. slice_get xs 0) c.in-Some.ensures.steps.0)))

pub open_edge-requires-clause-placed : goal.open_edge-requires-clause-placed
open_edge-requires-clause-placed g c κs ls =
    subst (λ (bells : List SeenBell). ArePlaced c.args.plan.now bells c.loop-pair.edge (rows_of g.L.Lane (vec_items c.loop-pair.all_ports))) (sym c.loop-pair.invariant.bells) c.loop-pair.invariant.placed

pub returns-clause-placed : goal.returns-clause-placed
returns-clause-placed g c =
    let rows = rows_of g.L.Lane (vec_items c.loop-pair.all_ports) in
    let all : c.loop-pair.edge ≡ edge_count c.args.plan.now = omega (arith, c.loop-pair.invariant.count, c.in-None.ensures.steps) in
    subst (λ (n : ℕ). ArePlaced c.args.plan.now (bells_of (vec_items c.args.all_ports.now)) n rows) all c.loop-pair.invariant.placed
