-- A handle may go to another thread: what it owns is a box, which may.
use mathlib.Core.Bool.{Bool, true, false}
use mir.Raw.{raw}
use base.Shift.{Keyless}
use denote.Memory.{lone}
use denote.RawPtr.{Ptr}
use denote.Struct.Struct.{exits_of}
use denote.Struct.Owning.{shape, fields, to}
use denote.Param.Send.{IsSend, AllSend, owning_send, struct_send, sendable}
use Rattle.std.proofs.Crossing as heap
use Rattle.std.specs.declared.alloc.Global.{Global}
use Rattle.std_alloc.proofs.SendSync.{quiet, lies}
use Rattle.std_heap.proofs.Global.TheSendSync as handle
use Rattle.cache_meaning.specs.Held.{Held}
use Rattle.dnsreplay_c.specs.Owns.{snapshot_owns}
use Rattle.dnsreplay_c.specs.contracts.kept.Kept as kept
use Rattle.dnsreplay_c.proofs.kept.Kept.TheSendSync.{the_send as kept_send}
use Rattle.dnsreplay_c.specs.contracts.snapshot.Snapshot.{the_row, the_type}

owned : (b : Bool) (a : Global) (p : Ptr) (held : Held) → Keyless (snapshot_owns b a p held)
owned true a p held = (lies kept.the_row kept_send p held, heap.frees.frees a (raw (lone kept.the_row.mir)) p)
owned false a p held = tt

pub send : IsSend the_row
send =
    let all : AllSend (fields the_type) = (search sendable, (search sendable, (handle.the_field_send, tt))) in
    owning_send the_type all (λ d. owned d.is_open d.alloc d.at d.held)
    (λ k. quiet (to the_type) (exits_of k (fields the_type)) ((struct_send (shape the_type) all).leaving k))
