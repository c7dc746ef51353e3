use Rattle.dine_link.proofs.BellSteps.{hears}
use Rattle.dine_link.proofs.bell.next_ring_or_sleep.Goals as goal

pub next_or_sleep-heard-requires-clause-pops : goal.next_or_sleep-heard-requires-clause-pops
next_or_sleep-heard-requires-clause-pops g c = hears _ _

pub next_or_sleep-heard-requires-clause-learns : goal.next_or_sleep-heard-requires-clause-learns
next_or_sleep-heard-requires-clause-learns g c = λ queue views h at. tt
