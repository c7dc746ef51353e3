-- What a box owns when it is held as its pointer.
use Rattle.std.specs.Prelude.{Option, Some, None}
use base.Fml.{Fml, ftrue}
use denote.RattleType.{RattleType}
use denote.RawPtr.{Ptr}
use Rattle.std.specs.Box.Ownership.{box_owns}
use Rattle.std.specs.Global.{Global}
use Rattle.std_heap.specs.contracts.GlobalAllocator.TheImpl.{ghosts}

-- A pointer that may be null, with the allocator of its box, owns nothing if there is no box, and else what the box
-- owns: its block of memory, the right to free it, and the value in it.
abbrev pub slot_owns : (T : RattleType) → Global → Ptr → Option T.Denot → Fml
slot_owns T alloc at None = ftrue
slot_owns T alloc at (Some value) = box_owns (ghosts.dealloc_token alloc) T at value
