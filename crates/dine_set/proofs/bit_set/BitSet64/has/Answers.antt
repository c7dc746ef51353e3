use Rattle.std.proofs.Common.{arith}
use Rattle.dine_set.proofs.WordMarks.{word_laws}
use Rattle.dine_set.proofs.bit_set.BitSet64.has.Goals as goal

pub returns : goal.returns
returns c = grind (arith, word_laws)
