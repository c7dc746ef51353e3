use borrow.Author.Tests.{tests}
use Rattle.std.proofs.Common.{rules}
use Rattle.dine_link.proofs.wants.Awaited.note.Goals as goal

pub returns-then-eq : goal.returns-then-eq
returns-then-eq c = search (tests, rules)
