use borrow.Author.Tests.{tests}
use Rattle.std.proofs.Common.{rules}
use Rattle.dine_link.proofs.sleeper.SleepState.note.Goals as goal

pub returns-then-has-clause-woken : goal.returns-then-has-clause-woken
returns-then-has-clause-woken c = search (tests, rules)

pub returns-clause-woken : goal.returns-clause-woken
returns-clause-woken c = search (tests, rules)
