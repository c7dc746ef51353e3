use Rattle.std.proofs.Common.{rules, tests}
use Rattle.dine_reader.specs.Document.{act_in, has_key, number_at}
use Rattle.dine_reader.specs.RefusalTests.{is_wrong}
use Rattle.dine_reader.proofs.jobs.act_in.Goals as goal

pub returns-then-no_add-clause-act : goal.returns-then-no_add-clause-act
unfolding act_in has_key number_at
returns-then-no_add-clause-act c = search (rules, tests)

pub returns-else-no_add-clause-act : goal.returns-else-no_add-clause-act
unfolding act_in has_key number_at
returns-else-no_add-clause-act c = search (rules, tests)

pub returns-else-no_add-clause-wrong : goal.returns-else-no_add-clause-wrong
unfolding is_wrong
returns-else-no_add-clause-wrong c = search (rules, tests)

pub returns-in-None-clause-act : goal.returns-in-None-clause-act
unfolding act_in has_key number_at
returns-in-None-clause-act c = search (rules, tests)

pub returns-in-None-clause-wrong : goal.returns-in-None-clause-wrong
unfolding is_wrong
returns-in-None-clause-wrong c = search (rules, tests)
