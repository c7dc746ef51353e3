use borrow.Author.Tests.{tests}
use Rattle.std.proofs.Common.{rules}
use Rattle.dine_link.proofs.testing.fault_lane.spend.Goals as goal

pub returns-in-Some-eq0-clause-reported : goal.returns-in-Some-eq0-clause-reported
returns-in-Some-eq0-clause-reported c = search (tests, rules)

pub returns-in-Some-clause-counted : goal.returns-in-Some-clause-counted
returns-in-Some-clause-counted c = search (tests, rules)
