use Rattle.std.proofs.Common.{arith, rules}
use Rattle.dine_set.proofs.WordMarks.{word_laws}
use Rattle.dine_set.proofs.bit_set.BitSet64.remove.Goals as goal

pub invariant_of-self : goal.invariant_of-self
invariant_of-self c = search rules

pub returns : goal.returns
returns c = grind (arith, word_laws)
