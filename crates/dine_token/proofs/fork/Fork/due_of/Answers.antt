use borrow.Author.Rules.{get_or_read}
use Rattle.std.proofs.Common.{rules}
use Rattle.dine_token.proofs.fork.Fork.due_of.Goals as goal

pub returns-then-end-deref-clause-due : goal.returns-then-end-deref-clause-due
returns-then-end-deref-clause-due c = search (rules, get_or_read)

pub returns-then-end-deref-clause-bound : goal.returns-then-end-deref-clause-bound
returns-then-end-deref-clause-bound c = search (rules, get_or_read)

pub returns-else-end-deref-clause-due : goal.returns-else-end-deref-clause-due
returns-else-end-deref-clause-due c = search (rules, get_or_read)

pub returns-else-end-deref-clause-bound : goal.returns-else-end-deref-clause-bound
returns-else-end-deref-clause-bound c = search (rules, get_or_read)
