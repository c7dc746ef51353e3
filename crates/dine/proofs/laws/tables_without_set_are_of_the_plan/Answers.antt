use Rattle.dine.proofs.OneTable.{one_table}
use Rattle.dine.proofs.laws.tables_without_set_are_of_the_plan.Goals as goal

pub returns : goal.returns
returns c = one_table
