use Rattle.std.proofs.Common.{◌≡◌, ◌++◌, drop, codes, string_bytes}
use Rattle.dine_token.specs.Periods.{periods_of, moved_entries}
use Rattle.dine_log_text.specs.Logs.{entries_text, separator}
use Rattle.dine_graph.specs.Plan.{name_of}
use Rattle.dine_log_text.proofs.logs.push_entries.Given as goal

-- the text so far, and that of the periods left, make the whole
abbrev pub invariant-loop-i : goal.invariant-loop-i
invariant-loop-i l =
    let name = name_of l.plan in
    string_bytes l.text ++ entries_text name (separator l.is_first) (moved_entries (drop l.i (periods_of l.fork.ends.0 l.fork.log))) ≡ string_bytes l.fn.text ++ entries_text name (codes " ") l.fork.log
