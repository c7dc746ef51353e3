use Rattle.dine_waking.proofs.Bounded.{reached_keeps}
use Rattle.dine_waking.proofs.Patient.{patient_meals, unchecked_meals}
use Rattle.dine_waking.proofs.laws.patience.patient_sites_begin_few_meals.Goals as goal

pub returns : goal.returns
returns c = record {
  few = λ plan patience skips checked m old new s i has some fits patiently given.
      let p = has.place in patient_meals plan p.is_plan s i p.is_site p.is_place patience some m checked skips old new (reached_keeps plan p.is_plan p.is_open p.steps old p.reached) has.asks has.rang fits patiently given;
  unchecked = λ plan patience skips checked m old new s i has some dirty yet patiently given.
      let p = has.place in unchecked_meals plan p.is_plan s i p.is_site p.is_place patience some m checked skips old new (reached_keeps plan p.is_plan p.is_open p.steps old p.reached) has.asks has.rang dirty yet patiently given;
}
