-- What a shared reference holds names no thread.
use denote.Param.Send.{IsSend, AllSend, owning_send, struct_send, sendable}
use denote.Struct.Struct.{exits_of}
use denote.Struct.Owning.{shape, fields, to}
use Rattle.c_opening.proofs.Crossing.{quiet, lent_keyless}
use Rattle.c_opening.specs.contracts.kept.Kept as Value
use Rattle.c_opening.proofs.kept.Kept.TheSendSync.{the_sync}
use Rattle.c_opening.specs.contracts.kept_handle.CgBytesAddress.{the_row, the_type}

pub send : IsSend the_row
send =
    let all : AllSend (fields the_type) = (search sendable, tt) in
    owning_send the_type all (λ d. lent_keyless Value.the_row the_sync d.at d.held)
    (λ k. quiet (to the_type) (exits_of k (fields the_type)) ((struct_send (shape the_type) all).leaving k))
