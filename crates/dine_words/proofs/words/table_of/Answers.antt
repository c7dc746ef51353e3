use Rattle.std.proofs.Common.{rules}
use Rattle.dine_words.proofs.words.table_of.Goals as goal

pub returns-in-sites : goal.returns-in-sites
returns-in-sites c = search rules
