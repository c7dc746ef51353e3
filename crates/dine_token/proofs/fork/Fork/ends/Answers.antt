use borrow.Author.Rules.{get_or_read}
use Rattle.std.proofs.Common.{rules}
use Rattle.dine_token.proofs.fork.Fork.ends.Goals as goal

pub returns-clause-ends : goal.returns-clause-ends
returns-clause-ends c = search (rules, get_or_read)

pub returns-clause-proper : goal.returns-clause-proper
returns-clause-proper c = search (rules, get_or_read)
