-- The text at the index is one of all.
use Rattle.std.proofs.Common.{map, arith, string_bytes}
use Rattle.std.proofs.lemmas.Result.{err_from_is_err_and}
use Rattle.gix_hash_core.specs.Hexadecimal.{SpellsId}
use Rattle.history_commands.proofs.IdLemmas.{spell_not_all, zip_more, text_at}
use Rattle.history_commands.proofs.words.read_ids.Goals as goal

pub returns-in_err-id-clause-refused : goal.returns-in_err-id-clause-refused
returns-in_err-id-clause-refused c =
    let texts = c.args.texts.now in
    let at = c.loop-text.text-index in
    let answered = err_from_is_err_and c.from_residual-in_err-id.result c.from_residual-in_err-id.ensures.1 in
    let none = rw c.as_bytes.ensures.value at c.in_err-id.ensures.err in
    rw (answered.1, answered.2)
    (spell_not_all (map string_bytes texts) c.loop-text.ids.items at (string_bytes c.text-item.result) c.in_err-id.field-0.0
    c.loop-text.invariant (text_at texts at c.text-item.result (omega arith) c.text-item.is) none)

pub loop-text-preserved : goal.loop-text-preserved
loop-text-preserved c =
    let texts = c.args.texts.now in
    let at = c.loop-text.text-index in
    let spelled = rw c.as_bytes.ensures.value at c.in_ok-id.ensures.ok in
    rw (c.push.ensures.items, c.if-is_err.ensures.negation)
    (zip_more SpellsId (map string_bytes texts) c.loop-text.ids.items at (string_bytes c.text-item.result) c.in_ok-id.id
    c.loop-text.invariant (text_at texts at c.text-item.result (omega arith) c.text-item.is) spelled)
