-- What the fields of a Ringer and of a Bell represent.
use Rattle.crossbeam_channel.specs.Claims.{view, IsSeatAt}
use Rattle.crossbeam_channel.specs.Ends.{sends_on, receives_on}
use Rattle.dine_link.specs.declared.bell.Bell.TheInside.{Inside as InBell}
use Rattle.dine_link.specs.declared.bell.Ringer.TheInside.{Inside as InRinger}
use Rattle.dine_link.specs.private.BellRule.{IsOfBell, IsOfRinger, reported_by, rings_of}
use Rattle.dine_link.specs.Bells.{SeenRinger, SeenBell}

-- the ringer that the fields of a `Ringer` represent
abbrev pub seen_ringer : InRinger → SeenRinger
seen_ringer ringer = record { bell = sends_on ringer.sender; number = ringer.number; rings = rings_of (view ringer.pass); refused = ringer.refused }

-- the bell that the fields of a `Bell` represent
abbrev pub seen_bell : InBell → SeenBell
seen_bell bell = record { identity = receives_on bell.receiver; degree = bell.degree; reported = reported_by (view bell.pass); found_empty = bell.empty_checks.at; refused = bell.refused }

-- The pass is one of the ringer's channel, and that of its number.
pub record IsRinger (ringer : InRinger) : Type 0 where
  pub seated : IsSeatAt (sends_on ringer.sender) ringer.pass
  pub own : IsOfRinger ringer.number (view ringer.pass)

-- The pass is one of the bell's channel, and that of a bell of its degree.
pub record IsBell (bell : InBell) : Type 0 where
  pub seated : IsSeatAt (receives_on bell.receiver) bell.pass
  pub own : IsOfBell bell.degree (view bell.pass)
