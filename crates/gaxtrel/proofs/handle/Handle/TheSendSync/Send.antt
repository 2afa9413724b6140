-- A handle may go to another thread: what it holds may, and any thread may free its block.
use Rattle.{gaxtrel.{proofs.Machine.{Option, Some, None, RawPtr, lone, Ptr, exits_of, shape, fields, to, Held, held_owns}, specs.contracts.handle.Handle.{the_row, the_type}}, std.proofs.Crossing.frees, std_alloc.proofs.SendSync.{quiet, lies}}
use base.Shift.{Keyless}
use mir.Raw.{raw}
use denote.Param.Send.{IsSend, owning_send, struct_send, sendable}
use Rattle.std.specs.contracts.alloc.Global as global_heap
use Rattle.std.proofs.alloc.Global.TheSendSync as global
use Rattle.gaxtrel.specs.contracts.held.Held as kind
use Rattle.gaxtrel.proofs.HeldSend as held_send

held_keyless : (alloc : (global_heap.the_row).Denot) (at : Ptr) (it : Option Held) → Keyless (held_owns kind.the_row alloc at it)
held_keyless alloc at (Some m) = (lies kind.the_row held_send.held at m, frees.frees alloc (raw (lone (kind.the_row).mir)) at)
held_keyless alloc at None = tt

pub send : IsSend the_row
send = let O = the_type in let ps : IsSend RawPtr = search sendable in let sa = global.the_field_send in
    owning_send O (ps, (sa, tt)) (λ d. held_keyless d.alloc d.at d.held)
    (λ k. quiet (to O) (exits_of k (fields O)) ((struct_send (shape O) (ps, (sa, tt))).leaving k))
