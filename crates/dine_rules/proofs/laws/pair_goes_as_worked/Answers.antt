-- each is computed
use Rattle.std.proofs.Common.{refl}
use Rattle.dine_rules.proofs.laws.pair_goes_as_worked.Goals as goal

pub returns : goal.returns
returns c = record { start = refl; sixth = refl; end = refl }
