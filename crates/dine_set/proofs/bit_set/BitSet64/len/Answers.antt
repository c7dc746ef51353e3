use Rattle.std.proofs.Common.{arith, rules}
use Rattle.dine_set.proofs.WordMarks.{word_laws}
use Rattle.dine_set.proofs.bit_set.BitSet64.len.Goals as goal

pub returns-clause-value : goal.returns-clause-value
returns-clause-value c = grind (arith, word_laws)

pub returns-clause-few : goal.returns-clause-few
returns-clause-few c = search rules
