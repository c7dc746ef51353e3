use borrow.Author.Tests.{tests}
use borrow.Author.Rules.{get_or_read}
use Rattle.std.proofs.Common.{rules}
use Rattle.dine_token.proofs.fork.Fork.is_dirty.Goals as goal

pub returns-clause-dirty : goal.returns-clause-dirty
returns-clause-dirty c = search (tests, rules, get_or_read)

pub returns-clause-proper : goal.returns-clause-proper
returns-clause-proper c = search (tests, rules, get_or_read)
