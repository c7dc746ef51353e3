use Rattle.dine_rules.specs.World.{is_enabled}
use Rattle.dine_rules.proofs.shared.counting.Enabled.{passes_at}
use Rattle.dine_rules.proofs.shared.counting.Listed.{listed, listed_once}
use Rattle.dine_rules.proofs.laws.enabled_events_are_all_listed.Goals as goal

pub returns : goal.returns
returns c = record {
  all = listed;
  only = λ plan world e n. passes_at (is_enabled plan world) _ n e;
  once = listed_once;
}
