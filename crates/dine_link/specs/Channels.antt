-- The ends of a link over a channel, as contracts see them.
use Rattle.std.specs.Prelude.{Option}
use Rattle.dine_link.specs.declared.stamped.Stamped.{Stamped}
use Rattle.dine_link.specs.Stamps.{letters_in, moments_in}
use Rattle.crossbeam_channel.specs.Claims.{view}
use Rattle.crossbeam_channel.specs.Ends.{sends_on, receives_on}
use Rattle.crossbeam_channel.specs.declared.flavors.array.Rows.{Rows}
use Rattle.crossbeam_channel.specs.declared.flavors.array.Key.{Key}
use Rattle.crossbeam_channel.specs.declared.flavors.array.Doing.{Doing}
use Rattle.crossbeam_channel.specs.declared.flavors.array.Rounds.{Rounds}
use Rattle.crossbeam_channel.specs.declared.flavors.array.Lockers.{Lockers}
use Rattle.crossbeam_channel.specs.declared.flavors.array.Whole.{Whole}
use Rattle.atomic_table.specs.declared.badge.Badge.{Badge}
use Rattle.std.specs.declared.alloc.Global.{Global}
use Rattle.dine_link.specs.declared.rule.Known.{Known}
use Rattle.dine_link.specs.declared.rule.InOrder.{InOrder}
use Rattle.dine_link.specs.declared.channel.Putting.{Putting}
use Rattle.dine_link.specs.declared.channel.ChannelTx.{ChannelTx}
use Rattle.dine_link.specs.declared.channel.ChannelClosedTx.{ChannelClosedTx}
use Rattle.dine_link.specs.declared.channel.ChannelRx.{ChannelRx}
use Rattle.dine_link.specs.Links.{SeenEnd}

-- the channel itself, which tells a link from every other one
abbrev pub Channel : Type 0
Channel = Rows (Badge (Key Stamped)) (Doing Stamped Known) (Rounds InOrder) (Option Stamped) (Key Stamped) (Lockers Whole) Global

-- an end that letters are put in, live or closed: all that was put in it, and whether a step was refused
abbrev pub seen_putting : Putting → SeenEnd Channel
seen_putting tx = record { link = record { identity = sends_on tx.sender; edge = tx.edge; from = tx.from }; letters = letters_in (view tx.pass).put; moments = moments_in (view tx.pass).put; refused = tx.refused }

-- the end of a channel that letters are put in
abbrev pub seen_tx : ChannelTx → SeenEnd Channel
seen_tx tx = seen_putting tx.putting

-- the same end after Close was put
abbrev pub seen_closed : ChannelClosedTx → SeenEnd Channel
seen_closed tx = seen_putting tx.putting

-- the end of a channel that letters are taken from: all that was taken, and whether a step was refused
abbrev pub seen_rx : ChannelRx → SeenEnd Channel
seen_rx rx = record { link = record { identity = receives_on rx.receiver; edge = rx.edge; from = rx.from }; letters = letters_in (view rx.pass).taken; moments = moments_in (view rx.pass).taken; refused = rx.refused }
