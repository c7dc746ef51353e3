use Rattle.std.proofs.Common.{sym}
use Rattle.rtrb.specs.Ring.{sent}
use Rattle.dine_link.specs.Stamps.{letters_in}
use Rattle.dine_link.proofs.Endings.{not_ended-open, close_last-open}
use Rattle.dine_link.proofs.ring.RingLaneLane.reconcile.Goals as goal

pub join-requires-clause-shut : goal.join-requires-clause-shut
join-requires-clause-shut c = sym (not_ended-open (letters_in (sent c.in-Live.field-0.pushing.producer)) c.in-Live.field-0.unclosed)

pub join-requires-clause-close_last : goal.join-requires-clause-close_last
join-requires-clause-close_last c = close_last-open (letters_in (sent c.in-Live.field-0.pushing.producer)) c.in-Live.field-0.unclosed

pub join-requires-clause-pair : goal.join-requires-clause-pair
join-requires-clause-pair c = rw c.in-Live.is at c.requires.pair

pub join-requires-in-Shut : goal.join-requires-in-Shut
join-requires-in-Shut c = record { pair = rw c.in-Shut.is at c.requires.pair; shut = sym c.in-Shut.field-0.ended; close_last = c.in-Shut.field-0.close_last }

pub returns-in-Live : goal.returns-in-Live
returns-in-Live c = rw c.in-Live.is c.join.ensures

pub returns-in-Shut : goal.returns-in-Shut
returns-in-Shut c = rw c.in-Shut.is c.join-in-Shut.ensures
