use Rattle.dine_waking.proofs.Answered.{asked_is_given, asker_eats}
use Rattle.dine_waking.proofs.Bounded.{reached_keeps, steps_keep}
use Rattle.dine_waking.proofs.laws.manners.nobody_asks_in_vain.Goals as goal

pub returns : goal.returns
returns c = record {
  given = λ plan m run end s i p asked more ended.
      asked_is_given plan p.is_plan run end m s i (reached_keeps plan p.is_plan p.is_open p.steps run p.reached) (steps_keep plan p.is_plan m run end (reached_keeps plan p.is_plan p.is_open p.steps run p.reached) more) p.is_site p.is_place asked more ended;
  eats = λ plan m run end s i p asked more ended. asker_eats plan p.is_plan run end m s i (reached_keeps plan p.is_plan p.is_open p.steps run p.reached) p.is_site p.is_place asked more ended;
}
