-- Bells and their ringers, as contracts see them. The definitions do not say how many rings a bell has capacity for,
-- nor that each ring is reported.
use Rattle.std.specs.Prelude.{ℕ, Bool, true, false, ◌+◌, Option, List, [], ◌∷◌, ◌++◌}
use Rattle.crossbeam_channel.specs.declared.flavors.array.Rows.{Rows}
use Rattle.crossbeam_channel.specs.declared.flavors.array.Key.{Key}
use Rattle.crossbeam_channel.specs.declared.flavors.array.Doing.{Doing}
use Rattle.crossbeam_channel.specs.declared.flavors.array.Rounds.{Rounds}
use Rattle.crossbeam_channel.specs.declared.flavors.array.Lockers.{Lockers}
use Rattle.crossbeam_channel.specs.declared.flavors.array.Whole.{Whole}
use Rattle.atomic_table.specs.declared.badge.Badge.{Badge}
use Rattle.std.specs.declared.alloc.Global.{Global}
use Rattle.dine_link.specs.declared.bell_rule.Part.{Part}
use Rattle.dine_link.specs.declared.bell_rule.OfRingers.{OfRingers}

-- the channel of a bell, which distinguishes it from every other bell
abbrev pub BellId : Type 0
BellId = Rows (Badge (Key ℕ)) (Doing ℕ Part) (Rounds OfRingers) (Option ℕ) (Key ℕ) (Lockers Whole) Global

-- A ringer: the bell that it rings, its number, how often it rang so far, and whether a ring of it was ever refused.
pub record SeenRinger : Type 0 where
  pub bell : BellId
  pub number : ℕ
  pub rings : ℕ
  pub refused : Bool

-- A bell: what distinguishes it from every other, its degree, which is how many ringers it was opened with, the numbers
-- that it reported so far, in order, each check that found no ring left, by the number of events that the site of the
-- bell had done, and whether a wait for it was ever refused.
pub record SeenBell : Type 0 where
  pub identity : BellId
  pub degree : ℕ
  pub reported : List ℕ
  pub found_empty : List ℕ
  pub refused : Bool

-- the ringer of that bell and number before it ever rang
abbrev pub new_ringer : BellId → ℕ → SeenRinger
new_ringer bell number = record { bell = bell; number = number; rings = 0; refused = false }

-- the ringer after one further ring
abbrev pub after_ring : SeenRinger → SeenRinger
after_ring ringer = record { bell = ringer.bell; number = ringer.number; rings = ringer.rings + 1; refused = ringer.refused }

-- the ringer after a ring that was refused
abbrev pub after_refused_ring : SeenRinger → SeenRinger
after_refused_ring ringer = record { bell = ringer.bell; number = ringer.number; rings = ringer.rings; refused = true }

-- the bell of that identity and degree before it reported anything
abbrev pub new_bell : BellId → ℕ → SeenBell
new_bell identity degree = record { identity = identity; degree = degree; reported = []; found_empty = []; refused = false }

-- the bell after it reported one further number
abbrev pub after_report : ℕ → SeenBell → SeenBell
after_report number bell = record { identity = bell.identity; degree = bell.degree; reported = bell.reported ++ number ∷ []; found_empty = bell.found_empty; refused = bell.refused }

-- the bell after a check that found no ring left, once its site had done this number of events
abbrev pub after_empty_check : ℕ → SeenBell → SeenBell
after_empty_check events bell = record { identity = bell.identity; degree = bell.degree; reported = bell.reported; found_empty = bell.found_empty ++ events ∷ []; refused = bell.refused }

-- the bell after a wait that was refused
abbrev pub after_refused_wait : SeenBell → SeenBell
after_refused_wait bell = record { identity = bell.identity; degree = bell.degree; reported = bell.reported; found_empty = bell.found_empty; refused = true }
