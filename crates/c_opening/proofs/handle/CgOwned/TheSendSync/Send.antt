-- What a box holds may go to any thread, and its block may be freed there.
use denote.Param.Send.{IsSend, AllSend, owning_send, struct_send, sendable}
use denote.Struct.Struct.{exits_of}
use denote.Struct.Owning.{shape, fields, to}
use Rattle.std.proofs.alloc.Global.TheSendSync as handle
use Rattle.c_opening.proofs.Crossing.{quiet, owned_keyless}
use Rattle.c_opening.specs.contracts.opened.Opened as Value
use Rattle.c_opening.proofs.opened.Opened.TheSendSync.{the_send}
use Rattle.c_opening.specs.contracts.handle.CgOwned.{the_row, the_type}

pub send : IsSend the_row
send =
    let all : AllSend (fields the_type) = (search sendable, (handle.the_field_send, tt)) in
    owning_send the_type all (λ d. owned_keyless Value.the_row the_send d.alloc d.at d.held)
    (λ k. quiet (to the_type) (exits_of k (fields the_type)) ((struct_send (shape the_type) all).leaving k))
