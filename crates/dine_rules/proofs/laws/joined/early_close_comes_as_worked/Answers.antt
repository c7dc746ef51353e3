-- each is computed
use Rattle.std.proofs.Common.{refl}
use Rattle.dine_rules.proofs.laws.joined.early_close_comes_as_worked.Goals as goal

pub returns : goal.returns
returns c = record { next = refl; told = refl }
