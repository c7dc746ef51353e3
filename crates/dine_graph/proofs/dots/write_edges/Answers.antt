use Rattle.std.proofs.Common.{◌++◌, ◌<◌, ◌∙◌, ap, arith, codes, rules, ℕ, List}
use Rattle.std.proofs.Output.{has_written_append}
use Rattle.dine_graph.specs.Dot.{dot_edge, dot_edges}
use Rattle.dine_graph.specs.Plan.{edge_count, lo_of, name_of}
use Rattle.dine_graph.proofs.DotLemmas.{line_step}
use Rattle.dine_graph.proofs.dots.write_edges.Goals as goal

pub loop-edge-preserved : goal.loop-edge-preserved
loop-edge-preserved g c = λ plain.
    let plan = c.args.plan.now in
    let edge = c.loop-edge.edge in
    let within : edge < edge_count plan = omega (arith, c.loop-edge-test.true, c.edges-edge-end.ensures.count) in
    let so_far = c.loop-edge.invariant plain in
    let line : List ℕ → List ℕ → List ℕ = λ lower higher. codes "  \"" ++ lower ++ codes "\" -- \"" ++ higher ++ codes "\";\n" in
    let put = line c.name.result.now c.name-in-loop-edge.result.now in
    let lower = c.name.ensures.name ∙ ap (λ (ends : ℕ × ℕ). name_of plan ends.0) c.ends-lower.ensures.ends in
    let higher = c.name-in-loop-edge.ensures.name ∙ ap (λ (ends : ℕ × ℕ). name_of plan ends.1) c.ends-lower.ensures.ends in (
      so_far.0 ++ put,
      has_written_append _ _ _ _ _ _ so_far.1 (search rules),
      line_step (dot_edge plan) (edge_count plan) edge so_far.0 (so_far.0 ++ put) (dot_edges plan) within so_far.2
          (ap (λ (name : List ℕ). so_far.0 ++ line name c.name-in-loop-edge.result.now) lower
          ∙ ap (λ (name : List ℕ). so_far.0 ++ line (name_of plan (lo_of plan edge)) name) higher),
    )
