use Rattle.dine_rules.proofs.journals.Asked.{journal_waits, list_waits, order_waits}
use Rattle.dine_rules.proofs.laws.journals.askers_wait_for_one_meal.Goals as goal

pub returns : goal.returns
returns c = record {
  journal = journal_waits;
  list = λ plan events world s. list_waits plan s events world;
  order = λ plan journals events s. order_waits plan s journals events;
}
