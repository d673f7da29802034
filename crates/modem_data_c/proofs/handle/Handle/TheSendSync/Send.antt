-- A handle may cross threads, as the relay that it owns may.
use Rattle.std.specs.Prelude.{Option, Some, None}
use mir.Raw.{raw}
use base.Shift.{Keyless}
use denote.Memory.{lone}
use denote.RawPtr.{Ptr}
use denote.Struct.Struct.{exits_of}
use denote.Struct.Owning.{shape, fields, to}
use denote.Param.Send.{IsSend, AllSend, owning_send, struct_send, sendable}
use Rattle.std.proofs.Crossing as heap
use Rattle.std.specs.Global.{Global}
use Rattle.std_alloc.proofs.SendSync.{quiet, lies}
use Rattle.std_heap.proofs.Global.TheSendSync as allocator
use Rattle.modem_data.specs.contracts.relay.Relay as Relay
use Rattle.modem_data.proofs.relay.Relay.TheSendSync.{the_send as relay}
use Rattle.modem_data_c.specs.Held.{holds}
use Rattle.modem_data_c.specs.contracts.handle.Handle.{the_row, the_type}

held : (a : Global) (p : Ptr) (h : Option Relay.the_row.Denot) → Keyless (holds a p h)
held a p None = tt
held a p (Some e) = (lies Relay.the_row relay p e, heap.frees.frees a (raw (lone Relay.the_row.mir)) p)

-- it may be sent to another thread
pub send : IsSend the_row
send =
    let all : AllSend (fields the_type) = (search sendable, (allocator.the_field_send, tt)) in
    owning_send the_type all (λ h. held h.alloc h.at h.held)
    (λ k. quiet (to the_type) (exits_of k (fields the_type)) ((struct_send (shape the_type) all).leaving k))
