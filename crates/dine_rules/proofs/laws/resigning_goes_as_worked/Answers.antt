-- each is computed
use Rattle.std.proofs.Common.{refl}
use Rattle.dine_rules.proofs.laws.resigning_goes_as_worked.Goals as goal

pub returns : goal.returns
returns c = record { after_one = refl; after_two = refl; after_quit = refl; end = refl; fork = refl; done = refl; other_fork = refl; other_done = refl }
