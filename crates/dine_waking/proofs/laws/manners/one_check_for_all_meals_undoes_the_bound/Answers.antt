use Rattle.std.proofs.Common.{arith}
use Rattle.dine_waking.proofs.TwoSites.{eats_on_by_one_check}
use Rattle.dine_waking.proofs.laws.manners.one_check_for_all_meals_undoes_the_bound.Goals as goal

pub returns : goal.returns
returns c k = eats_on_by_one_check k k 0 (omega arith)
