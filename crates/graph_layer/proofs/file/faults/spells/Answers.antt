use Rattle.std.proofs.Common.{◌∙◌, sym, ap, bytes_eq, List, ℕ}
use Rattle.gix_hash_core.specs.Oid.{oid_bytes}
use Rattle.gix_hash_core.proofs.Spelling.{spells_id-read, spells_id-unread}
use Rattle.graph_layer.proofs.file.faults.spells.Goals as goal

pub returns-in-Ok : goal.returns-in-Ok
returns-in-Ok c =
    c.eq.ensures
    ∙ ap (λ (bytes : List ℕ). bytes_eq bytes (oid_bytes c.args.id)) c.as_oid.ensures
    ∙ sym (spells_id-read c.args.text.now (oid_bytes c.args.id) c.in-Ok.spelled
    (rw c.as_bytes.ensures.value at c.in-Ok.ensures.ok))

pub returns-in-Err : goal.returns-in-Err
returns-in-Err c =
    sym (spells_id-unread c.args.text.now (oid_bytes c.args.id) c.in-Err.field-0
    (rw c.as_bytes.ensures.value at c.in-Err.ensures.err))
