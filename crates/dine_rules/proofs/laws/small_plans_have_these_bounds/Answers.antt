-- each is computed
use Rattle.std.proofs.Common.{refl}
use Rattle.dine_rules.proofs.laws.small_plans_have_these_bounds.Goals as goal

pub returns : goal.returns
returns c = record { pair = refl; lower_alone = refl; higher_alone = refl; alone = refl; path = refl; resigning = refl }
