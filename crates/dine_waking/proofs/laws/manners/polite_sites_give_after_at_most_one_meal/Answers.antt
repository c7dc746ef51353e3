use Rattle.dine_waking.proofs.Answered.{asked_is_given}
use Rattle.dine_waking.proofs.Bells.{RunKeeps}
use Rattle.dine_waking.proofs.Bounded.{reached_keeps, steps_keep}
use Rattle.dine_waking.proofs.Overtaking.{gives_soon}
use Rattle.dine_waking.proofs.Polite.{manner_leads}
use Rattle.dine_waking.specs.Runs.{LeadsBySteps}
use Rattle.dine_waking.proofs.laws.manners.polite_sites_give_after_at_most_one_meal.Goals as goal

pub returns : goal.returns
returns c plan is_polite checked checked_then m old end s i has polite more ended =
    let p = has.place in
    let keeps : RunKeeps plan old = reached_keeps plan p.is_plan p.is_open p.steps old p.reached in
    let to_end : LeadsBySteps plan m old end = manner_leads plan is_polite checked checked_then m old end more in
    let given = asked_is_given plan p.is_plan old end m s i keeps (steps_keep plan p.is_plan m old end keeps to_end) p.is_site p.is_place has.asks to_end ended in
    gives_soon plan p.is_plan s i p.is_site p.is_place is_polite polite checked checked_then old keeps has.asks has.rang m end more given
