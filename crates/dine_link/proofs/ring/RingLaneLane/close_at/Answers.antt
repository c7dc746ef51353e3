use Rattle.std.proofs.Common.{ap}
use Rattle.rtrb.specs.Ring.{sent}
use Rattle.dine_link.specs.Stamps.{letters_in}
use Rattle.dine_link.proofs.Endings.{ended-added, close_last-added}
use Rattle.dine_link.proofs.ring.RingLaneLane.close_at.Goals as goal

pub invariant_of-result-clause-ended : goal.invariant_of-result-clause-ended
invariant_of-result-clause-ended g c = rw (ap (λ end. end.letters) c.push.ensures) (ended-added (letters_in (sent c.args.tx.pushing.producer)))

pub invariant_of-result-clause-close_last : goal.invariant_of-result-clause-close_last
invariant_of-result-clause-close_last g c = rw (ap (λ end. end.letters) c.push.ensures) (close_last-added (letters_in (sent c.args.tx.pushing.producer)) c.args.tx.unclosed)
