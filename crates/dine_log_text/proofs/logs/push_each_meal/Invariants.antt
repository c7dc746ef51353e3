use Rattle.std.proofs.Common.{◌≡◌, ◌+◌, ◌-◌, ◌++◌, string_bytes}
use Rattle.dine_token.specs.Periods.{meals_from, meals_in}
use Rattle.dine_log_text.specs.Logs.{entries_text, separator}
use Rattle.dine_graph.specs.Plan.{name_of}
use Rattle.dine_log_text.proofs.logs.push_each_meal.Given as goal

-- the text so far, and that of the meals left, make the whole
abbrev pub invariant-loop-i : goal.invariant-loop-i
invariant-loop-i l =
    let name = name_of l.plan in
    string_bytes l.text ++ entries_text name (separator l.is_first) (meals_from l.period.site (l.period.first + l.i) (l.period.count - l.i)) ≡ string_bytes l.fn.text ++ entries_text name (separator l.fn.is_first) (meals_in l.period)
