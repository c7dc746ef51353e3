use Rattle.std.proofs.Common.{◌++◌, ℕ, List, ◌∙◌, ap}
use Rattle.dine_world.specs.Outcomes.{with_outcomes}
use Rattle.dine_log_text.specs.Logs.{edge_lines, events_line}
use Rattle.dine_log_text.proofs.logs.world_text.Goals as goal

pub returns : goal.returns
returns c fails state stands =
    let shown = with_outcomes c.args.plan.now fails in
    let lines = edge_lines c.args.plan.now shown state in
    let value = ap (λ v. v.items) c.into_bytes.ensures.value in
    value ∙ c.in_ok-push_events_line.ensures
    ∙ ap (λ (l : List ℕ). l ++ events_line c.args.events c.bound.result) (c.in_ok-text.ensures fails state stands)
    ∙ ap (λ (n : ℕ). lines ++ events_line c.args.events n) (c.bound.ensures.bound shown state stands)
