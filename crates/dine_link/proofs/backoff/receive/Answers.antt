use Rattle.std.proofs.Common.{refl, ◌∙◌}
use Rattle.dine_link.proofs.backoff.receive.Goals as goal

pub loop-init : goal.loop-init
loop-init g c = (c.requires.channel, refl, refl)

pub try_recv_as-requires-clause-rule : goal.try_recv_as-requires-clause-rule
try_recv_as-requires-clause-rule g c = rw (c.loop.invariant.1, c.loop.invariant.2) c.requires.rule

pub returns-in-Ok-clause-channel : goal.returns-in-Ok-clause-channel
returns-in-Ok-clause-channel g c = (c.try_recv_as.ensures.channel.0, c.try_recv_as.ensures.channel.1 ∙ c.loop.invariant.1)

pub returns-in-Ok-clause-rule : goal.returns-in-Ok-clause-rule
returns-in-Ok-clause-rule g c = rw c.loop.invariant.2 at c.in-Ok.ensures.rule

pub loop-preserved : goal.loop-preserved
loop-preserved g c = (c.try_recv_as.ensures.channel.0, c.try_recv_as.ensures.channel.1 ∙ c.loop.invariant.1, c.in_default.ensures.rule.0 ∙ c.loop.invariant.2)

pub recv_as-requires-clause-rule : goal.recv_as-requires-clause-rule
recv_as-requires-clause-rule g c = rw (c.loop.invariant.1, c.loop.invariant.2) c.requires.rule

pub returns-clause-channel : goal.returns-clause-channel
returns-clause-channel g c = (c.recv_as.ensures.channel.0, c.recv_as.ensures.channel.1 ∙ c.loop.invariant.1)
