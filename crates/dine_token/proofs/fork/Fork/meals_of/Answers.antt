use borrow.Author.Rules.{get_or_read}
use Rattle.std.proofs.Common.{rules}
use Rattle.dine_token.proofs.fork.Fork.meals_of.Goals as goal

pub returns-then-end-deref-clause-meals : goal.returns-then-end-deref-clause-meals
returns-then-end-deref-clause-meals c = search (rules, get_or_read)

pub returns-then-end-deref-clause-bound : goal.returns-then-end-deref-clause-bound
returns-then-end-deref-clause-bound c = search (rules, get_or_read)

pub returns-else-end-deref-clause-meals : goal.returns-else-end-deref-clause-meals
returns-else-end-deref-clause-meals c = search (rules, get_or_read)

pub returns-else-end-deref-clause-bound : goal.returns-else-end-deref-clause-bound
returns-else-end-deref-clause-bound c = search (rules, get_or_read)
