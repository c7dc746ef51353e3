use Rattle.std.proofs.Common.{rules}
use Rattle.dine_words.proofs.check.check_text.Goals as goal

pub returns : goal.returns
returns c = search rules
