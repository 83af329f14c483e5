-- What is told is read by parts, or an answer of the check.
use Rattle.std.proofs.Common.{inl, refl}
use Rattle.answer_lines.specs.Replies.{IsKnown, listed_reply, response_status, response_text}
use Rattle.graph_commands.specs.OpenerAnswer.{MayOpen}
use Rattle.graph_commands.specs.declared.refusal.Refusal.TheVariants.{Open, Walk}
use Rattle.graph_commands.proofs.ToldLemmas.{tells, writes_refused}
use Rattle.graph_layer.specs.declared.opening.error.OpenError.TheVariants.{Device}
use Rattle.graph_unchecked.proofs.FailureLemmas.{kept-unless, risen-if}
use Rattle.unchecked_commands.specs.TrustedReplies.{MayReplyTrusted}
use Rattle.unchecked_commands.proofs.PartReplyLemmas.{searched-other}
use Rattle.unchecked_commands.proofs.run.run_question_unchecked.Goals as goal

pub returns-in-Ok-clause-written : goal.returns-in-Ok-clause-written
returns-in-Ok-clause-written g c =
    let before = g.T.Folder.failure_count c.args.folder.now in
    let after = g.T.Folder.failure_count c.reply_by_parts.new.folder in
    let asked = c.args.question.now in
    let opens = MayOpen (g.T.Folder.tree c.args.folder.now) c.args.path.now in
    let other = searched-other asked c.requires in
    let read = c.in-Ok.ensures.reply in
    tells (MayReplyTrusted opens before after asked) IsKnown (listed_reply c.in-Ok.reply) (inl (other, read))
    (λ known. inl (other, read.0)) (response_text c.args.form) response_status _ _ c.write.result c.write.ensures

pub returns-in-Err-Device-clause-written : goal.returns-in-Err-Device-clause-written
returns-in-Err-Device-clause-written g c =
    let before = g.T.Folder.failure_count c.args.folder.now in
    let after = g.T.Folder.failure_count c.reply_by_parts.new.folder in
    let device = rw c.in-Err-Device.field-0-is at c.in-Err-Device.is in
    let rose = risen-if c.reply_by_parts.result before after device c.reply_by_parts.ensures.failures in
    writes_refused (response_text c.args.form) response_status _ (Open Device) _ _ c.refuse.result refl refl
    (inl (searched-other c.args.question.now c.requires, rose)) c.refuse.ensures

pub returns-in-Err-OutOfMemory-clause-written : goal.returns-in-Err-OutOfMemory-clause-written
returns-in-Err-OutOfMemory-clause-written g c =
    let before = g.T.Folder.failure_count c.args.folder.now in
    let after = g.T.Folder.failure_count c.reply_by_parts.new.folder in
    let kept =
    kept-unless c.reply_by_parts.result before after (λ device. let is = c.in-Err-OutOfMemory.is in cc)
    c.reply_by_parts.ensures.failures in
    writes_refused (response_text c.args.form) response_status _ Walk _ _ c.refuse-in-Err-OutOfMemory.result refl refl
    (inl (searched-other c.args.question.now c.requires, kept)) c.refuse-in-Err-OutOfMemory.ensures
