use Rattle.dine_waking.proofs.Bounded.{reached_keeps}
use Rattle.dine_waking.proofs.Overtaking.{clean_eats_first, overtakes_never, overtakes_once}
use Rattle.dine_waking.proofs.laws.manners.polite_sites_overtake_at_most_once.Goals as goal

pub returns : goal.returns
returns c = record {
  once = λ plan is_polite checked checked_then m old new s i p polite waits more ate.
      overtakes_once plan p.is_plan s i p.is_site p.is_place is_polite polite checked old (reached_keeps plan p.is_plan p.is_open p.steps old p.reached) waits m checked_then new more ate;
  never = λ plan is_polite checked checked_then m old new s i p polite waits dirty yet more ate.
      overtakes_never plan p.is_plan s i p.is_site p.is_place is_polite polite checked old (reached_keeps plan p.is_plan p.is_open p.steps old p.reached) waits dirty yet m checked_then new more ate;
  clean_first = λ plan m old new s i p clean more ate.
      clean_eats_first plan p.is_plan s i p.is_site p.is_place m old new (reached_keeps plan p.is_plan p.is_open p.steps old p.reached) clean more ate;
}
