use Rattle.dine_waking.proofs.Bounded.{reached_keeps}
use Rattle.dine_waking.proofs.Polite.{no_meal, one_meal}
use Rattle.dine_waking.proofs.laws.manners.polite_sites_begin_at_most_one_meal.Goals as goal

pub returns : goal.returns
returns c = record {
  one = λ plan is_polite checked checked_then m old new s i has polite more given.
      let p = has.place in one_meal plan p.is_plan s i p.is_site p.is_place is_polite polite m checked checked_then old new (reached_keeps plan p.is_plan p.is_open p.steps old p.reached) has.asks has.rang more given;
  none = λ plan is_polite checked checked_then m old new s i has polite dirty yet more given.
      let p = has.place in no_meal plan p.is_plan s i p.is_site p.is_place is_polite polite m checked checked_then old new (reached_keeps plan p.is_plan p.is_open p.steps old p.reached) has.asks has.rang dirty yet more given;
}
