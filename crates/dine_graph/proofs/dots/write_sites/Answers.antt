use Rattle.std.proofs.Common.{◌++◌, ◌<◌, ap, arith, codes, rules, ℕ, List}
use Rattle.std.proofs.Output.{has_written_append}
use Rattle.dine_graph.specs.Dot.{dot_site, dot_sites}
use Rattle.dine_graph.specs.Plan.{site_count}
use Rattle.dine_graph.proofs.DotLemmas.{line_step}
use Rattle.dine_graph.proofs.dots.write_sites.Goals as goal

pub loop-site-preserved : goal.loop-site-preserved
loop-site-preserved g c = λ plain.
    let plan = c.args.plan.now in
    let site = c.loop-site.site in
    let within : site < site_count plan = omega (arith, c.loop-site-test.true, c.sites-site-end.ensures.count) in
    let so_far = c.loop-site.invariant plain in
    let line : List ℕ → List ℕ = λ name. codes "  \"" ++ name ++ codes "\";\n" in (
      so_far.0 ++ line c.name.result.now,
      has_written_append _ _ _ _ _ _ so_far.1 (search rules),
      line_step (dot_site plan) (site_count plan) site so_far.0 (so_far.0 ++ line c.name.result.now) (dot_sites plan) within so_far.2
          (ap (λ (name : List ℕ). so_far.0 ++ line name) c.name.ensures.name),
    )
