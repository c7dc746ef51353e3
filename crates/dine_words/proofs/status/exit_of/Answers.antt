use Rattle.std.proofs.Common.{rules}
use Rattle.dine_words.proofs.status.exit_of.Goals as goal

pub returns : goal.returns
returns c = search rules
