use Rattle.std.proofs.Common.{arith, rules}
use Rattle.dine_set.proofs.WordMarks.{word_laws}
use Rattle.dine_set.proofs.bit_set.BitSet64.below.Goals as goal

pub returns-then-n-eq64 : goal.returns-then-n-eq64
returns-then-n-eq64 c = search rules

pub invariant_of-result : goal.invariant_of-result
invariant_of-result c = search rules

pub returns : goal.returns
returns c = grind (arith, word_laws)
