use Rattle.std.proofs.Common.{ap}
use Rattle.crossbeam_channel.specs.Claims.{view}
use Rattle.dine_link.proofs.Endings.{ended-added, close_last-added}
use Rattle.dine_link.specs.Stamps.{letters_in}
use Rattle.dine_link.proofs.channel.ChannelLaneLane.close_at.Goals as goal

pub invariant_of-result-clause-ended : goal.invariant_of-result-clause-ended
invariant_of-result-clause-ended g c = rw (ap (λ end. end.letters) c.in-Ok.ensures.put) (ended-added (letters_in (view c.args.tx.putting.pass).put))

pub invariant_of-result-clause-close_last : goal.invariant_of-result-clause-close_last
invariant_of-result-clause-close_last g c = rw (ap (λ end. end.letters) c.in-Ok.ensures.put) (close_last-added (letters_in (view c.args.tx.putting.pass).put) c.args.tx.unclosed)

pub returns-in-Ok-clause-closed : goal.returns-in-Ok-clause-closed
returns-in-Ok-clause-closed g c = c.in-Ok.ensures.put

pub returns-in-Err-clause-refused : goal.returns-in-Err-clause-refused
returns-in-Err-clause-refused g c = c.in-Err.ensures.refused
