use Rattle.std.proofs.Common.{arith}
use Rattle.dine_set.proofs.WordMarks.{word_laws}
use Rattle.dine_set.proofs.bit_set.BitSet64.insert.Goals as goal

pub invariant_of-self : goal.invariant_of-self
invariant_of-self c = grind (arith, word_laws)

pub returns : goal.returns
returns c = grind (arith, word_laws)
