use Rattle.std.proofs.Common.{rules}
use Rattle.dine_words.proofs.status.Status.number.Goals as goal

pub returns-in-RunFailed : goal.returns-in-RunFailed
returns-in-RunFailed c = search rules
