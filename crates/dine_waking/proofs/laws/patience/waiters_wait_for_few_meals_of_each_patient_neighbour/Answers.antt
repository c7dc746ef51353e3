use Rattle.dine_waking.proofs.Bounded.{reached_keeps}
use Rattle.dine_waking.proofs.PatientWaiting.{waits_for_few}
use Rattle.dine_waking.proofs.laws.patience.waiters_wait_for_few_meals_of_each_patient_neighbour.Goals as goal

pub returns : goal.returns
returns c plan is_open patience skips checked n m old new s is_plan leads is_site each more ate i within some fits =
    waits_for_few plan is_plan s i within patience checked skips m old new (reached_keeps plan is_plan is_open n old leads) more ate some fits (each i within)
