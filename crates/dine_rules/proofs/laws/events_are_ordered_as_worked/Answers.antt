-- each is computed
use Rattle.std.proofs.Common.{refl}
use Rattle.dine_rules.proofs.laws.events_are_ordered_as_worked.Goals as goal

pub returns : goal.returns
returns c = record { kinds = refl; take_before_give = refl; done_before_close = refl }
