use Rattle.dine_waking.proofs.Bounded.{reached_keeps}
use Rattle.dine_waking.proofs.Waiters.{waits_for_one}
use Rattle.dine_waking.proofs.laws.manners.waiters_wait_for_one_meal_of_each_polite_neighbour.Goals as goal

pub returns : goal.returns
returns c plan is_open is_polite checked checked_then n m old new s is_plan leads is_site each more ate i within polite =
    waits_for_one plan is_plan s i within is_polite polite checked checked_then m old new (reached_keeps plan is_plan is_open n old leads) more ate (each i within)
