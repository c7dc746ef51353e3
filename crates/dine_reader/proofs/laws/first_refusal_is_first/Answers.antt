use Rattle.dine_reader.proofs.FirstLemmas.{is_first, none_holds}
use Rattle.dine_reader.proofs.laws.first_refusal_is_first.Goals as goal

pub returns-clause-first : goal.returns-clause-first
returns-clause-first c = is_first

pub returns-clause-none : goal.returns-clause-none
returns-clause-none c = none_holds
