-- each is computed
use Rattle.std.proofs.Common.{refl}
use Rattle.dine_rules.proofs.laws.small_plans_run_as_worked.Goals as goal

pub returns : goal.returns
returns c = record { pair = refl; asked_first = refl; passed_over = refl; passed_over_later = refl; lower_alone = refl; higher_alone = refl; alone = refl; path = refl; resigning = refl }
