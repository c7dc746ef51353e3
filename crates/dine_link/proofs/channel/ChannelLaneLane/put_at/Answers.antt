use Rattle.dine_link.proofs.Endings.{unclosed-sent}
use Rattle.dine_link.specs.Channels.{seen_tx, seen_putting}
use Rattle.dine_link.proofs.channel.ChannelLaneLane.put_at.Goals as goal

pub invariant_of-tx : goal.invariant_of-tx
invariant_of-tx g c = record { unclosed = unclosed-sent c.send.result (seen_tx c.args.tx.now) (seen_putting c.send.new.self) c.args.letter c.args.stamp.at c.send.ensures.put c.send.ensures.refused c.args.tx.now.unclosed c.requires.letter }

pub returns-in-Err-clause-handed_back : goal.returns-in-Err-clause-handed_back
returns-in-Err-clause-handed_back g c = c.in-Err.ensures.handed_back

pub returns-in-Err-clause-refused : goal.returns-in-Err-clause-refused
returns-in-Err-clause-refused g c = c.in-Err.ensures.refused
