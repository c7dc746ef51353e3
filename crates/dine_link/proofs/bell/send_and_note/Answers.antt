use Rattle.dine_link.proofs.BellSteps.{rings}
use Rattle.dine_link.proofs.bell.send_and_note.Goals as goal

pub try_send_as-requires-clause-rule : goal.try_send_as-requires-clause-rule
try_send_as-requires-clause-rule g c = (rings _ _ _ _ c.requires.own, λ queue views h at. tt)
