use borrow.Author.Rules.{get_or_read}
use Rattle.std.proofs.Common.{rules}
use Rattle.dine_token.proofs.fork.Fork.periods.Goals as goal

pub returns-clause-count : goal.returns-clause-count
returns-clause-count c = search (rules, get_or_read)

pub returns-clause-some : goal.returns-clause-some
returns-clause-some c = search (rules, get_or_read)

pub returns-clause-whole : goal.returns-clause-whole
returns-clause-whole c = search (rules, get_or_read)

pub returns-clause-proper : goal.returns-clause-proper
returns-clause-proper c = search (rules, get_or_read)
