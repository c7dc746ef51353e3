use Rattle.std.proofs.Common.{◌++◌, ℕ, List, ◌∙◌, ap}
use Rattle.dine_world.specs.Outcomes.{with_outcomes}
use Rattle.dine_log_text.specs.Logs.{edge_lines}
use Rattle.dine_log_text.proofs.logs.edges_text.Goals as goal

pub returns : goal.returns
returns c fails state stands =
    let lines = edge_lines c.args.plan.now (with_outcomes c.args.plan.now fails) state in
    c.in_ok-push_lines.ensures fails state stands ∙ ap (λ (l : List ℕ). l ++ lines) c.new-text.ensures.bytes
