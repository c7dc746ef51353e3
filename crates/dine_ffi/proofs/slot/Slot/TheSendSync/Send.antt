-- A slot may go to another thread: its contents may, and the heap frees a block on any thread.
use mir.Raw.{raw}
use base.Shift.{Keyless}
use denote.Memory.{lone}
use denote.RawPtr.{Ptr}
use denote.Struct.Struct.{exits_of}
use denote.Struct.Owning.{shape, fields, to}
use denote.Param.Send.{IsSend, AllSend, owning_send, struct_send, sendable}
use Rattle.std.specs.Prelude.{Option, Some, None}
use Rattle.std.specs.Global.{Global}
use Rattle.std.proofs.Crossing as heap
use Rattle.std_alloc.proofs.SendSync.{quiet, lies}
use Rattle.std_heap.proofs.Global.TheSendSync as handle
use Rattle.dine_ffi.specs.contracts.contents.Contents as Contents
use Rattle.dine_ffi.proofs.contents.Contents.TheSendSync.{the_send as contents}
use Rattle.dine_slot.specs.Slots.{slot_owns}
use Rattle.dine_ffi.specs.contracts.slot.Slot.{the_row, the_type}

keyless : (alloc : Global) (p : Ptr) (o : Option Contents.the_row.Denot) → Keyless (slot_owns Contents.the_row alloc p o)
keyless alloc p None = tt
keyless alloc p (Some x) = (lies Contents.the_row contents p x, heap.frees.frees alloc (raw (lone Contents.the_row.mir)) p)

pub send : IsSend the_row
send =
    let all : AllSend (fields the_type) = (search sendable, (handle.the_field_send, tt)) in
    owning_send the_type all (λ d. keyless d.alloc d.ptr d.held)
    (λ k. quiet (to the_type) (exits_of k (fields the_type)) ((struct_send (shape the_type) all).leaving k))
