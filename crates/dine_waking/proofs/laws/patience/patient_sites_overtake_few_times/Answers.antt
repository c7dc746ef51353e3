use Rattle.dine_waking.proofs.Bounded.{reached_keeps}
use Rattle.dine_waking.proofs.PatientWaiting.{overtakes_few, overtakes_unchecked}
use Rattle.dine_waking.proofs.laws.patience.patient_sites_overtake_few_times.Goals as goal

pub returns : goal.returns
returns c = record {
  few = λ plan patience skips checked m old new s i p some fits waits more ate.
      overtakes_few plan p.is_plan s i p.is_site p.is_place patience checked skips old (reached_keeps plan p.is_plan p.is_open p.steps old p.reached) some waits fits m new more ate;
  unchecked = λ plan patience skips checked m old new s i p some waits dirty yet more ate.
      overtakes_unchecked plan p.is_plan s i p.is_site p.is_place patience checked skips old (reached_keeps plan p.is_plan p.is_open p.steps old p.reached) some waits dirty yet m new more ate;
}
