-- The ends of a link that refuses after a number of steps, as contracts see them: those of the channel beneath.
use Rattle.dine_link.specs.declared.testing.fault_lane.FaultTx.{FaultTx}
use Rattle.dine_link.specs.declared.testing.fault_lane.FaultRx.{FaultRx}
use Rattle.dine_link.specs.Links.{SeenEnd}
use Rattle.dine_link.specs.Channels as channels

-- the end that letters are put in: that of the channel
abbrev pub seen_tx : FaultTx → SeenEnd channels.Channel
seen_tx end = channels.seen_tx end.tx

-- the end that letters are taken from: that of the channel
abbrev pub seen_rx : FaultRx → SeenEnd channels.Channel
seen_rx end = channels.seen_rx end.rx
