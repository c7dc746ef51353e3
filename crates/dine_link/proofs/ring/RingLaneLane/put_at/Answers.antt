use Rattle.std.proofs.Common.{ap, ◌∙◌, rules}
use Rattle.rtrb.specs.Ring.{sent}
use Rattle.dine_link.specs.Stamps.{letters_in}
use Rattle.dine_link.proofs.Endings.{has_close-added}
use Rattle.dine_link.proofs.ring.RingLaneLane.put_at.Goals as goal

pub invariant_of-tx : goal.invariant_of-tx
invariant_of-tx g c = record { unclosed = rw (ap (λ end. end.letters) c.push.ensures) (has_close-added (letters_in (sent c.args.tx.now.pushing.producer)) c.args.letter c.args.tx.now.unclosed ∙ c.requires.letter) }

pub returns-clause-put : goal.returns-clause-put
returns-clause-put g c = search rules
