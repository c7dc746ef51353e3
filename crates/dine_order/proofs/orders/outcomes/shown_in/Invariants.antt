use Rattle.std.proofs.Common.{◌≡◌, ◌≤◌, false, length, take}
use Rattle.dine_rules.specs.Journals.{outcomes_in}
use Rattle.dine_rules.specs.Shown.{shown_in}
use Rattle.dine_order.proofs.orders.outcomes.shown_in.Given as goal

-- what the events so far show, and how many meals they end
abbrev pub invariant-loop-kind : goal.invariant-loop-kind
invariant-loop-kind l = record {
  shown : l.fails.items ≡ shown_in l.jobs (take l.kind-index l.journal);
  ended : l.ended ≡ length (outcomes_in false (take l.kind-index l.journal));
  few : l.ended ≤ l.kind-index;
}
