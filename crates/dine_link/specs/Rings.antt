-- The ends of a link over a ring, as contracts see them. No step of a ring is ever refused.
use Rattle.std.specs.Prelude.{false}
use Rattle.dine_link.specs.declared.ring.Pushing.{Pushing}
use Rattle.dine_link.specs.declared.ring.RingTx.{RingTx}
use Rattle.dine_link.specs.declared.ring.RingClosedTx.{RingClosedTx}
use Rattle.dine_link.specs.declared.ring.RingRx.{RingRx}
use Rattle.dine_link.specs.Links.{SeenEnd}
use Rattle.dine_link.specs.Stamps.{letters_in, moments_in}
use Rattle.std.specs.declared.alloc.Global.{Global}
use Rattle.rtrb.specs.Shared.{Names}
use Rattle.rtrb.specs.Ring as rtrb_ring
use denote.RawPtr.{Ptr}

-- the memory of the ring, which tells a link from every other one
abbrev pub Ring : Type 0
Ring = Ptr × Ptr × Names × Global

-- an end that letters are pushed in, live or closed: all that was pushed; no step of a ring is ever refused
abbrev pub seen_pushing : Pushing → SeenEnd Ring
seen_pushing tx = record { link = record { identity = (tx.producer.end.words, tx.producer.end.slots, tx.producer.end.names, tx.producer.end.heap); edge = tx.edge; from = tx.from }; letters = letters_in (rtrb_ring.sent tx.producer); moments = moments_in (rtrb_ring.sent tx.producer); refused = false }

-- the end of a ring that letters are put in
abbrev pub seen_tx : RingTx → SeenEnd Ring
seen_tx tx = seen_pushing tx.pushing

-- the same end after Close was put
abbrev pub seen_closed : RingClosedTx → SeenEnd Ring
seen_closed tx = seen_pushing tx.pushing

-- the end of a ring that letters are taken from: all that was popped
abbrev pub seen_rx : RingRx → SeenEnd Ring
seen_rx rx = record { link = record { identity = (rx.consumer.end.words, rx.consumer.end.slots, rx.consumer.end.names, rx.consumer.end.heap); edge = rx.edge; from = rx.from }; letters = letters_in (rtrb_ring.received rx.consumer); moments = moments_in (rtrb_ring.received rx.consumer); refused = false }
