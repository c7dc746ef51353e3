use Rattle.std.proofs.Common.{rules}
use Rattle.dine_set.proofs.bit_set.BitSet64.set.Goals as goal

pub returns-then-is_in : goal.returns-then-is_in
returns-then-is_in c = search rules

pub returns-else-is_in : goal.returns-else-is_in
returns-else-is_in c = search rules
