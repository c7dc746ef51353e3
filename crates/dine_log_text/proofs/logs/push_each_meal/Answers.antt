use Rattle.std.proofs.Common.{◌++◌, ◌+◌, ◌∙◌, ap, List, ℕ, codes, string_bytes}
use Rattle.std.specs.Fmt.{decimal}
use Rattle.dine_token.specs.Periods.{meals_in}
use Rattle.dine_log_text.specs.Logs.{entries_text, separator}
use Rattle.dine_graph.specs.Plan.{name_of}
use Rattle.dine_log_text.proofs.EntryTexts.{meals_step}
use Rattle.dine_log_text.proofs.logs.push_each_meal.Goals as goal

pub loop-i-preserved : goal.loop-i-preserved
loop-i-preserved c =
    let name = name_of c.args.plan.now in
    let period = c.args.period in
    let whole = string_bytes c.args.text.now ++ entries_text name (separator c.args.is_first) (meals_in period) in
    let put = c.in_ok-push_meal.ensures ∙ ap (λ (n : List ℕ). string_bytes c.loop-i.text ++ (separator c.loop-i.is_first ++ (n ++ codes "#" ++ decimal (period.first + c.loop-i.i)))) c.name_of-name.ensures in
    meals_step name period.site period.first period.count c.loop-i.i (string_bytes c.loop-i.text) (separator c.loop-i.is_first) (string_bytes c.push_meal.new.text) whole
    c.loop-i-test.true c.loop-i.invariant put
