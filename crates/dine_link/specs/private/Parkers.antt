-- What a CountedParker and a CountedUnparker represent.
use Rattle.std.specs.Prelude.{◌≡◌, ◌+◌, ℕ}
use Rattle.std.specs.Arc.{arc_value}
use Rattle.atomic_table.specs.Seated.{TableId}
use Rattle.crossbeam_utils.specs.Token.{parker_view}
use Rattle.dine_link.specs.declared.counted_parker.CountedParker.TheInside.{Inside as InParker}
use Rattle.dine_link.specs.declared.counted_parker.CountedUnparker.TheInside.{Inside as InUnparker}

-- which parker it is, or is of, and how often it parked, or unparked
pub record SeenParker : Type 0 where
  pub parker : TableId
  pub times : ℕ

-- the same after it parked, or unparked, once more
abbrev pub once_more : SeenParker → SeenParker
once_more seen = record { parker = seen.parker; times = seen.times + 1 }

-- the parker that the fields of a CountedParker represent
abbrev pub seen_parker : InParker → SeenParker
seen_parker parker = record { parker = parker.pass.table_id; times = parker_view parker.pass }

-- the unparker that the fields of a CountedUnparker represent
abbrev pub seen_unparker : InUnparker → SeenParker
seen_unparker unparker = record { parker = unparker.pass.table_id; times = parker_view unparker.pass }

-- the pass is one of this parker
abbrev pub IsParker : InParker → Type 0
IsParker parker = parker.pass.table_id ≡ (arc_value parker.parker.unparker.state).shared.table_id

-- the pass is one of this unparker's parker
abbrev pub IsUnparker : InUnparker → Type 0
IsUnparker unparker = unparker.pass.table_id ≡ (arc_value unparker.unparker.state).shared.table_id
