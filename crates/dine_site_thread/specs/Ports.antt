-- The two link ends of a site at a place, as contracts see them, whatever lane they are of. Rings are counted, and not
-- ordered among the letters.
use Rattle.std.specs.Prelude.{◌≡◌, ◌⊎◌, ℕ, ◌+◌, ◌≤◌, Bool, true, false, List, [], ◌∷◌, ◌++◌, length, map, Option, option_to_list}
use Rattle.std.specs.List.{list_any}
use Rattle.dine_rules.specs.declared.events.EventKind.{EventKind}
use Rattle.dine_rules.specs.declared.letters.Letter.{Letter}
use Rattle.dine_rules.specs.declared.letters.Letter.TheVariants.{Close}
use Rattle.dine_site_thread.specs.declared.port.Port.{Port}
use Rattle.dine_link.specs.declared.lane.TxEnd.{TxEnd}
use Rattle.dine_link.specs.declared.lane.TxEnd.TheVariants.{Live, Shut}
use Rattle.dine_link.specs.Lanes.{seen_end}
use Rattle.dine_link.specs.Bells.{SeenRinger}
use Rattle.dine_link.specs.Links.{SeenEnd}
use Rattle.dine_link.specs.declared.lane.Lane.{Ghosts}
use Rattle.dine_site_thread.specs.Doings.{is_close_at}

-- A port: the end that the site puts in, whether more can be put in it, the end that it takes from, and the ringer of
-- the neighbour's bell.
pub record SeenPort (Identity : Type 0) : Type 0 where
  pub tx : SeenEnd Identity
  pub is_live : Bool
  pub rx : SeenEnd Identity
  pub ringer : SeenRinger

-- the end is live: Close was not put in it
abbrev pub is_live_end : {Lane Tx Closed Rx : Type 0} → TxEnd Lane Tx Closed Rx → Bool
is_live_end (Live tx) = true
is_live_end (Shut tx) = false

-- a port, by what is seen of the ends of its lane; and the ports of all places
module _ {Lane Tx Closed Rx : Type 0} (lane : Ghosts Lane Tx Closed Rx) where
  -- a port, by what is seen of the ends of its lane
  abbrev pub seen_port : Port Lane Tx Closed Rx → SeenPort lane.Identity
  seen_port port = record { tx = seen_end lane.seen_tx lane.seen_closed port.tx; is_live = is_live_end port.tx; rx = lane.seen_rx port.rx; ringer = port.ringer }

  -- the ports of all places, in order
  abbrev pub seen_ports : List (Port Lane Tx Closed Rx) → List (SeenPort lane.Identity)
  seen_ports ports = map seen_port ports

-- no step at the port was refused
pub record IsUnrefused {Identity : Type 0} (port : SeenPort Identity) : Type 0 where
  pub put : port.tx.refused ≡ false
  pub take : port.rx.refused ≡ false
  pub ring : port.ringer.refused ≡ false

-- The end for puts is live, and nothing was put, taken, rung or refused yet.
pub record IsFreshPort {Identity : Type 0} (port : SeenPort Identity) : Type 0 where
  pub live : port.is_live ≡ true
  pub nothing_put : port.tx.letters ≡ []
  pub nothing_taken : port.rx.letters ≡ []
  pub untimed_put : port.tx.moments ≡ []
  pub untimed_taken : port.rx.moments ≡ []
  pub nothing_rung : port.ringer.rings ≡ 0
  pub unrefused : IsUnrefused port

-- The ends are those of the same two links. The ringer is one of the same bell, with the same number.
pub record SameLinks {Identity : Type 0} (old new : SeenPort Identity) : Type 0 where
  pub tx : new.tx.link ≡ old.tx.link
  pub rx : new.rx.link ≡ old.rx.link
  pub bell : new.ringer.bell ≡ old.ringer.bell
  pub number : new.ringer.number ≡ old.ringer.number

-- There are at most as many rings as letters put, and exactly as many if no ring was refused. There are at most two
-- letters more than rings.
pub record HasRung {Identity : Type 0} (port : SeenPort Identity) : Type 0 where
  pub no_more : port.ringer.rings ≤ length port.tx.letters
  pub each : port.ringer.refused ≡ false → port.ringer.rings ≡ length port.tx.letters
  pub all_but_two : length port.tx.letters ≤ port.ringer.rings + 2

-- The end for puts of place i is shut, and no event of the journal is Close there: the site broke off. There is at most
-- one letter more than rings.
pub record BrokeOffUnheard {Identity : Type 0} (i : ℕ) (journal : List EventKind) (port : SeenPort Identity) : Type 0 where
  pub shut : port.is_live ≡ false
  pub no_event : list_any (is_close_at i) journal ≡ false
  pub at_most_one : length port.tx.letters ≤ port.ringer.rings + 1

-- What a core put at a place is what was put on the link, with two exceptions: a letter that the link refused, and a
-- Close that the link refused.
pub record PutsFit (has_refused : Bool) (refused : Option Letter) (by_core on_link : List Letter) : Type 0 where
  pub front : List Letter
  pub closing : List Letter
  pub closes : (closing ≡ []) ⊎ (closing ≡ Close ∷ [])
  pub core : by_core ≡ front ++ option_to_list refused ++ closing
  pub link : (on_link ≡ front ++ closing) ⊎ ((on_link ≡ front) × (has_refused ≡ true))
