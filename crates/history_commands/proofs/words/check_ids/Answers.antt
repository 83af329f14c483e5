-- The text at the index is one of all.
use Rattle.std.proofs.Common.{[], ◌∷◌, ◌++◌, map, arith, string_bytes}
use Rattle.std.proofs.lemmas.Result.{err_from_is_err_and}
use Rattle.gix_hash_core.specs.Hexadecimal.{SpellsId}
use Rattle.history_commands.proofs.IdLemmas.{spell_not_all, zip_more, text_at}
use Rattle.history_commands.proofs.words.check_ids.Goals as goal

pub returns-in_err-_id-clause-refused : goal.returns-in_err-_id-clause-refused
returns-in_err-_id-clause-refused c =
    let texts = c.args.texts.now in
    let at = c.loop-text.text-index in
    let answered = err_from_is_err_and c.from_residual.result c.from_residual.ensures.1 in
    let none = rw c.as_bytes.ensures.value at c.in_err-_id.ensures.err in
    let before = c.loop-text.invariant in
    rw (answered.1, answered.2)
    (spell_not_all (map string_bytes texts) before.0 at (string_bytes c.text-item.result) c.in_err-_id.field-0.0 before.1
    (text_at texts at c.text-item.result (omega arith) c.text-item.is) none)

pub loop-text-preserved : goal.loop-text-preserved
loop-text-preserved c =
    let texts = c.args.texts.now in
    let at = c.loop-text.text-index in
    let spelled = rw c.as_bytes.ensures.value at c.in_ok-_id.ensures.ok in
    let before = c.loop-text.invariant in (
      before.0 ++ c.in_ok-_id._id ∷ [],
      zip_more SpellsId (map string_bytes texts) before.0 at (string_bytes c.text-item.result) c.in_ok-_id._id before.1
          (text_at texts at c.text-item.result (omega arith) c.text-item.is) spelled,
    )
