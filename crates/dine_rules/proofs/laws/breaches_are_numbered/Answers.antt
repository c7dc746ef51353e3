-- it is computed
use Rattle.std.proofs.Common.{refl}
use Rattle.dine_rules.proofs.laws.breaches_are_numbered.Goals as goal

pub returns : goal.returns
returns c = refl
