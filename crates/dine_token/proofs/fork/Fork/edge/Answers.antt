use borrow.Author.Rules.{get_or_read}
use Rattle.std.proofs.Common.{rules}
use Rattle.dine_token.proofs.fork.Fork.edge.Goals as goal

pub returns : goal.returns
returns c = search (rules, get_or_read)
