use Rattle.dine_link.proofs.BellSteps.{hears}
use Rattle.dine_link.proofs.bell.Bell.check.Goals as goal

pub next_or_add-found-requires-clause-pops : goal.next_or_add-found-requires-clause-pops
next_or_add-found-requires-clause-pops g c = hears _ _
