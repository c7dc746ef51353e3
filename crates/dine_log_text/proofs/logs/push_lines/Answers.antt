use Rattle.std.proofs.Common.{◌≡◌, ◌<◌, Option, Some, None, ◌∙◌, ap, arith, String, Global, string_bytes}
use Rattle.std.proofs.lemmas.Option.{same_Some}
use Rattle.dine_token.specs.Fork.{SeenFork}
use Rattle.dine_graph.specs.Plan.{edge_count}
use Rattle.dine_world.specs.Outcomes.{with_outcomes}
use Rattle.dine_world.specs.Worlds.{fork_seen}
use Rattle.dine_log_text.proofs.EdgeLines.{fork_there, lines_step}
use Rattle.dine_log_text.proofs.logs.push_lines.Goals as goal
use Rattle.dine_log_text.proofs.logs.push_lines.Goals.{in-Some+in_ok-push_edge_line, in_default}

-- nothing is no fork
none_some : (fork : SeenFork) → ◌≡◌ {A = Option SeenFork} None (Some fork) → ⊥
none_some fork h = absurd cc

pub loop-edge-preserved : goal.loop-edge-preserved
loop-edge-preserved c fails state stands =
    let plan = c.args.plan.now in
    let shown = with_outcomes plan fails in
    let e = c.loop-edge.edge in
    let within : e < edge_count plan = omega (arith, c.loop-edge-test.true, c.edges-edge-end.ensures.count) in
    elim c.match-fork.branch [
      | in-Some+in_ok-push_edge_line w ↦
          let fork : w.in-Some.fork.now ≡ fork_seen shown state e = same_Some w.in-Some.fork.now (fork_seen shown state e) (w.in-Some.ensures shown state stands ∙ fork_there shown state e within) in
          lines_step plan fails state e w.in-Some.fork.now _ _ _ within fork (c.loop-edge.invariant fails state stands)
          (ap (λ (t : String Global). string_bytes t) w.text-is ∙ w.in_ok-push_edge_line.ensures)
      | in_default w ↦ absurd (none_some (fork_seen shown state e) (w.in_default.ensures shown state stands ∙ fork_there shown state e within))
    ]
