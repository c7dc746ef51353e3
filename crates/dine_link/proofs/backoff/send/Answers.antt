use Rattle.std.proofs.Common.{refl, ◌∙◌}
use Rattle.dine_link.proofs.backoff.send.Goals as goal

pub try_send_as-requires-clause-rule : goal.try_send_as-requires-clause-rule
try_send_as-requires-clause-rule g c = rw (c.loop.invariant.1, c.loop.invariant.2, c.loop.invariant.3) c.requires.rule

pub returns-in-Ok-clause-rule : goal.returns-in-Ok-clause-rule
returns-in-Ok-clause-rule g c = rw (c.loop.invariant.2, c.loop.invariant.3) at c.in-Ok.ensures.rule

pub send_as-requires-clause-rule : goal.send_as-requires-clause-rule
send_as-requires-clause-rule g c = rw (c.loop.invariant.1, c.loop.invariant.2, c.loop.invariant.3) c.requires.rule

pub returns-in-Ok-send_as-clause-rule : goal.returns-in-Ok-send_as-clause-rule
returns-in-Ok-send_as-clause-rule g c = rw (c.loop.invariant.2, c.loop.invariant.3) at c.in-Ok-send_as.ensures.rule

pub loop-init : goal.loop-init
loop-init g c = (c.requires.channel, refl, refl, refl)

pub returns-in-Ok-clause-channel : goal.returns-in-Ok-clause-channel
returns-in-Ok-clause-channel g c = (c.try_send_as.ensures.channel.0, c.try_send_as.ensures.channel.1 ∙ c.loop.invariant.1)

pub returns-in-Ok-send_as-clause-channel : goal.returns-in-Ok-send_as-clause-channel
returns-in-Ok-send_as-clause-channel g c = (c.send_as.ensures.channel.0, c.send_as.ensures.channel.1 ∙ c.loop.invariant.1)

pub returns-in-Err-send_as-clause-channel : goal.returns-in-Err-send_as-clause-channel
returns-in-Err-send_as-clause-channel g c = (c.send_as.ensures.channel.0, c.send_as.ensures.channel.1 ∙ c.loop.invariant.1)

pub returns-in-Err : goal.returns-in-Err
returns-in-Err g c = record {
  channel = (c.try_send_as.ensures.channel.0, c.try_send_as.ensures.channel.1 ∙ c.loop.invariant.1);
  rule = (c.into_inner.ensures ∙ c.in-Err.ensures.rule.0 ∙ c.loop.invariant.3, c.in-Err.ensures.rule.1 ∙ c.loop.invariant.2);
}

pub returns-in-Err-send_as-clause-rule : goal.returns-in-Err-send_as-clause-rule
returns-in-Err-send_as-clause-rule g c =
    let same = c.in-Err-send_as.ensures.rule in
    (c.into_inner-in-Err-send_as.ensures ∙ same.0 ∙ c.loop.invariant.3, same.1 ∙ c.loop.invariant.2)

pub loop-preserved : goal.loop-preserved
loop-preserved g c =
    let same = rw c.in-Err-Full.field-0-is at c.in-Err-Full.ensures.rule in
    (c.try_send_as.ensures.channel.0, c.try_send_as.ensures.channel.1 ∙ c.loop.invariant.1, same.1 ∙ c.loop.invariant.2, same.0 ∙ c.loop.invariant.3)
