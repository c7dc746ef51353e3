use Rattle.std.proofs.Common.{◌++◌, ◌∙◌, ap, List, ℕ, eqb, drop, codes, string_bytes, append_assoc}
use Rattle.dine_token.specs.Periods.{periods_of, meals_in, moved_entries}
use Rattle.dine_log_text.specs.Logs.{entries_text, separator}
use Rattle.dine_graph.specs.Plan.{name_of}
use Rattle.dine_log_text.proofs.EntryTexts.{periods_step, first_period}
use Rattle.dine_log_text.proofs.logs.push_entries.Goals as goal

pub loop-i-init : goal.loop-i-init
loop-i-init c =
    let name = name_of c.args.plan.now in
    let periods = periods_of c.args.fork.now.ends.0 c.args.fork.now.log in
    let first = c.period-first.result in
    let before = string_bytes c.args.text.now in
    let meals = entries_text name (codes " ") (meals_in first) in
    let rest = entries_text name (separator (eqb first.count 0)) (moved_entries (drop 1 periods)) in
    ap (λ (l : List ℕ). l ++ rest) c.in_ok-push_meals.ensures ∙ append_assoc before meals rest
    ∙ ap (λ (l : List ℕ). before ++ l) (first_period name periods first c.period-first.ensures.period ∙ ap (entries_text name (codes " ")) c.periods-periods.ensures.whole)

pub loop-i-preserved : goal.loop-i-preserved
loop-i-preserved c =
    let name = name_of c.args.plan.now in
    let periods = periods_of c.args.fork.now.ends.0 c.args.fork.now.log in
    let whole = string_bytes c.args.text.now ++ entries_text name (codes " ") c.args.fork.now.log in
    periods_step name periods c.loop-i.i c.period.result (string_bytes c.loop-i.text) (separator c.loop-i.is_first) (string_bytes c.push_moved.new.text) whole
    c.period.ensures.period c.loop-i.invariant c.in_ok-push_moved.ensures
