use Rattle.dine_waking.proofs.Answered.{asked_is_given}
use Rattle.dine_waking.proofs.Bells.{RunKeeps}
use Rattle.dine_waking.proofs.Bounded.{reached_keeps, steps_keep}
use Rattle.dine_waking.proofs.Patient.{patient_leads}
use Rattle.dine_waking.proofs.PatientWaiting.{gives_after_few}
use Rattle.dine_waking.specs.Runs.{LeadsBySteps}
use Rattle.dine_waking.proofs.laws.patience.patient_sites_give_after_few_meals.Goals as goal

pub returns : goal.returns
returns c plan patience skips checked m old end s i has some fits more ended =
    let p = has.place in
    let keeps : RunKeeps plan old = reached_keeps plan p.is_plan p.is_open p.steps old p.reached in
    let to_end : LeadsBySteps plan m old end = patient_leads plan patience m checked skips old end more in
    let given = asked_is_given plan p.is_plan old end m s i keeps (steps_keep plan p.is_plan m old end keeps to_end) p.is_site p.is_place has.asks to_end ended in
    gives_after_few plan p.is_plan s i p.is_site p.is_place patience checked skips old keeps some fits has.asks has.rang m end more given
